-- The written form of an attribute is octets.
use Rattle.bgp_wire.proofs.Std.{◌≡◌, ℕ, zero, suc, ◌/◌, ◌%◌, ◌^◌, ◌<◌, ◌≤◌, Bool, true, false, cond, eqb, ltb, List, [], ◌∷◌, ◌++◌, length, take, map, Option, Some, None, sym, lit<, arith, flat_map, list_any, AllByRecursion, w16, w32, byte_at, bytes_high_first, to_be_bytes, ltb-false, or_parts}
use Rattle.std.proofs.lemmas.List.{length-append}
use Rattle.bgp_numbers.specs.declared.safi.TheConstants.{UNICAST}
use Rattle.bgp_prefix.specs.Prelude.{octets_for, PrefixValue, IsValid, spelling_of}
use Rattle.bgp_wire.specs.Prelude.{AreOctets}
use Rattle.bgp_wire.proofs.OctetLemmas.{AreOctets-nil, AreOctets-one, AreOctets-append, AreOctets-take}
use Rattle.bgp_attr.specs.declared.aggregator.Aggregator.{Aggregator}
use Rattle.bgp_attr.specs.declared.class.Class.{Class}
use Rattle.bgp_attr.specs.declared.origin.Origin.{Origin}
use Rattle.bgp_attr.specs.declared.origin.Origin.TheVariants.{Igp, Egp, Incomplete}
use Rattle.bgp_attr.specs.declared.path.SegKind.{SegKind}
use Rattle.bgp_attr.specs.declared.path.SegKind.TheVariants.{Set, Seq}
use Rattle.bgp_attr.specs.declared.path.Segment.{Segment}
use Rattle.bgp_attr.specs.Prelude.{is_extended, flags_octet, length_octets, tlv_octets, number_octets, row_octets, triple_octets, origin_code, link_octets, made, segment_code, segment_octets, aggregator_octets, run_octets, reach_row, unreach_row, is_bad_segment, IsAddress, HasLinkRange}
use Rattle.bgp_attr.proofs.NumberRows.{number_of}
use Rattle.bgp_attr.proofs.FlagBits.{is_extended-flags, flags_octet-small}

pub AreOctets-cons : (x : ℕ) (b : List ℕ) → x < 256 → AreOctets b → AreOctets (x ∷ b)
AreOctets-cons x b lt octets zero = lt
AreOctets-cons x b lt octets (suc i) = octets i

-- ---- numbers

below_256 : (x : ℕ) → x % 256 < 256
below_256 x = omega arith

byte_small : (k n : ℕ) → byte_at k n < 256
byte_small zero n = below_256 n
byte_small (suc k) n = below_256 (n / 256 ^ suc k)

bytes-octets : (k n : ℕ) → AreOctets (bytes_high_first k n)
bytes-octets zero n = AreOctets-nil
bytes-octets (suc k) n = AreOctets-cons (byte_at k n) (bytes_high_first k n) (byte_small k n) (bytes-octets k n)

pub AreOctets-two : (n : ℕ) → AreOctets (to_be_bytes w16 n)
AreOctets-two n = bytes-octets 2 n

pub AreOctets-four : (n : ℕ) → AreOctets (to_be_bytes w32 n)
AreOctets-four n = bytes-octets 4 n

pub AreOctets-number : (wide : Bool) (n : ℕ) → AreOctets (number_octets wide n)
AreOctets-number true n = AreOctets-four n
AreOctets-number false n = AreOctets-two n

pub AreOctets-row : (wide : Bool) (ns : List ℕ) → AreOctets (row_octets wide ns)
AreOctets-row wide [] = AreOctets-nil
AreOctets-row wide (n ∷ ns) = AreOctets-append (number_octets wide n) (row_octets wide ns) (AreOctets-number wide n) (AreOctets-row wide ns)

pub triples-octets : (ts : List (List ℕ)) → AreOctets (flat_map triple_octets ts)
triples-octets [] = AreOctets-nil
triples-octets (t ∷ ts) = AreOctets-append (triple_octets t) (flat_map triple_octets ts) (AreOctets-row true t) (triples-octets ts)

-- ---- values

code_small : (kind : SegKind) → segment_code kind < 256
code_small Set = lit< tt
code_small Seq = lit< tt

pub path-octets : (wide : Bool) (ss : List Segment) → list_any is_bad_segment ss ≡ false → AreOctets (flat_map (segment_octets wide) ss)
path-octets wide [] good = AreOctets-nil
path-octets wide (s ∷ ss) good =
    let p = or_parts (is_bad_segment s) (list_any is_bad_segment ss) good in
    let q = or_parts (eqb (length s.numbers) 0) (ltb 255 (length s.numbers)) p.0 in
    let few : length s.numbers ≤ 255 = ltb-false 255 (length s.numbers) q.1 in
    AreOctets-append (segment_octets wide s) (flat_map (segment_octets wide) ss)
    (AreOctets-cons (segment_code s.kind) (length s.numbers ∷ row_octets wide (map number_of s.numbers)) (code_small s.kind)
    (AreOctets-cons (length s.numbers) (row_octets wide (map number_of s.numbers)) (omega arith) (AreOctets-row wide (map number_of s.numbers))))
    (path-octets wide ss p.1)

pub spelling_of-octets : (width : ℕ) (p : PrefixValue) → width ≤ 16 → IsValid width p → AreOctets (spelling_of p)
unfolding spelling_of
spelling_of-octets width p narrow valid = AreOctets-cons p.len (take (octets_for p.len) p.addr) (omega (arith, valid.allowed)) (AreOctets-take (octets_for p.len) p.addr valid.octets)

pub run-octets : (width : ℕ) (ps : List PrefixValue) → width ≤ 16 → AllByRecursion (IsValid width) ps → AreOctets (run_octets ps)
run-octets width [] narrow valid = AreOctets-nil
run-octets width (p ∷ ps) narrow valid = AreOctets-append (spelling_of p) (run_octets ps) (spelling_of-octets width p narrow valid.0) (run-octets width ps narrow valid.1)

pub reach-octets : (afi : ℕ) (hop : List ℕ) (routes : List PrefixValue) → length hop < 256 → AreOctets hop → AreOctets (run_octets routes) → AreOctets (reach_row afi hop routes)
reach-octets afi hop routes short octets run =
    AreOctets-append (to_be_bytes w16 afi) (UNICAST ∷ length hop ∷ (hop ++ (0 ∷ run_octets routes))) (AreOctets-two afi)
    (AreOctets-cons UNICAST (length hop ∷ (hop ++ (0 ∷ run_octets routes))) (lit< tt) (AreOctets-cons (length hop) (hop ++ (0 ∷ run_octets routes)) short (AreOctets-append hop (0 ∷ run_octets routes) octets (AreOctets-cons 0 (run_octets routes) (lit< tt) run))))

pub unreach-octets : (afi : ℕ) (routes : List PrefixValue) → AreOctets (run_octets routes) → AreOctets (unreach_row afi routes)
unreach-octets afi routes run = AreOctets-append (to_be_bytes w16 afi) (UNICAST ∷ run_octets routes) (AreOctets-two afi) (AreOctets-cons UNICAST (run_octets routes) (lit< tt) run)

pub link-octets : (hop : List ℕ) (link : Option (List ℕ)) → IsAddress 16 hop → HasLinkRange link → (length (hop ++ link_octets link) < 256) × AreOctets (hop ++ link_octets link)
link-octets hop None one range = (omega (arith, length-append hop [], one.wide), AreOctets-append hop [] one.octets AreOctets-nil)
link-octets hop (Some addr) one range = (omega (arith, length-append hop addr, one.wide, range.wide), AreOctets-append hop addr one.octets range.octets)

pub aggregator-octets : (wide : Bool) (a : Aggregator) → IsAddress 4 a.addr → AreOctets (aggregator_octets wide a)
aggregator-octets wide a addr = AreOctets-append (number_octets wide (a.asn).0) a.addr (AreOctets-number wide (a.asn).0) addr.octets

pub code-octet : (o : Origin) → origin_code o < 256
code-octet Igp = lit< tt
code-octet Egp = lit< tt
code-octet Incomplete = lit< tt

-- ---- the whole attribute

size-octets : (extended : Bool) (n : ℕ) → ltb 255 n ≡ extended → AreOctets (cond extended (to_be_bytes w16 n) (n ∷ []))
size-octets true n e = AreOctets-two n
size-octets false n e = let small : n ≤ 255 = ltb-false 255 n e in AreOctets-one n (omega arith)

pub made-octets : (class : Class) (partial : Bool) (kind : ℕ) (value : List ℕ) → kind < 256 → AreOctets value → AreOctets (made class partial kind value).whole
made-octets class partial kind value small octets =
    at (flags_octet class partial (ltb 255 (length value))) (flags_octet-small class partial (ltb 255 (length value))) (sym (is_extended-flags class partial (ltb 255 (length value))))
  where
    at : (flags : ℕ) → flags < 256 → ltb 255 (length value) ≡ is_extended flags → AreOctets (tlv_octets flags kind value)
    at flags low e =
        AreOctets-cons flags (kind ∷ (length_octets flags (length value) ++ value)) low (AreOctets-cons kind (length_octets flags (length value) ++ value) small (
        AreOctets-append (length_octets flags (length value)) value (size-octets (is_extended flags) (length value) e) octets))
