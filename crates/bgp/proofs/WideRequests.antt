-- What is narrowed has 4-octet AS numbers.
use Rattle.std.proofs.Common.{◌≡◌, Bool, true, false, cond, List, codes, Option, None, Some, option_map, refl, ap, subst}
use Rattle.std.specs.Str.{bytes_eq}
use Rattle.clap.specs.Words.{Row, Text, first_of, subcommand_of}
use Rattle.bgp_wire.specs.declared.octet_set.OctetSet.{OctetSet}
use Rattle.bgp_words.specs.declared.request.Asked.{Asked}
use Rattle.bgp_words.specs.declared.request.Request.{Request}
use Rattle.bgp_words.specs.declared.request.Request.TheVariants.{Narrow}
use Rattle.bgp_words.specs.CommandLine.{Asks, AsksFor, bgp_command, file_in, flag_terms_of, request_by, session_by}
use Rattle.bgp.specs.Command.{IsWide}

either : (b : Bool) (x y : Request) → IsWide x → IsWide y → IsWide (cond b x y)
either true x y first second = first
either false x y first second = second

narrow : (file : Option Text) (rows : List Row) → IsWide (Narrow (session_by file (flag_terms_of true rows)))
narrow None rows = refl
narrow (Some file) rows = tt

by_name : (name : Text) (rows : List Row) (drops : OctetSet) → IsWide (request_by name rows drops)
by_name name rows drops =
    either (bytes_eq name (codes "show")) _ _ tt
    (either (bytes_eq name (codes "explain")) _ _ tt
    (either (bytes_eq name (codes "check")) _ _ tt
    (either (bytes_eq name (codes "narrow")) _ _ (narrow (first_of (codes "opens") rows) rows)
    (either (bytes_eq name (codes "clean")) _ _ tt
    (either (bytes_eq name (codes "to-hex")) _ _ tt
    (either (bytes_eq name (codes "from-hex")) _ _ tt tt))))))

first_is : (x y : Request × Text) → Some x ≡ Some y → x.0 ≡ y.0
first_is x y e = let same : x ≡ y = cc in ap (λ (p : Request × Text). p.0) same

found : (o : Option (Text × List Row)) (drops : OctetSet) (request : Request) (file : Text)
    → option_map {U = Request × Text} (λ p. (request_by p.0 p.1 drops, file_in p.1)) o ≡ Some (request, file) → IsWide request
found None drops request file e = absurd cc
found (Some p) drops request file e = subst IsWide (first_is (request_by p.0 p.1 drops, file_in p.1) (request, file) e) (by_name p.0 p.1 drops)

pub is_wide : (words : List Text) (o : Option Asked) (asked : Asked) → o ≡ Some asked
    → Asks words (option_map {U = Request × Text} (λ asked. (asked.request, asked.file.now)) o) → IsWide asked.request
is_wide words o asked is asks =
    let a : AsksFor words asked.request asked.file.now =
    subst (λ (o : Option Asked). Asks words (option_map {U = Request × Text} (λ asked. (asked.request, asked.file.now)) o)) is asks in
    found (subcommand_of bgp_command words) a.drops asked.request asked.file.now a.is
