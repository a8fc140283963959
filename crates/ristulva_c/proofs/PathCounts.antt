-- The path identifiers of an UPDATE's routes, by how many routes it has.
use Rattle.ristulva_c.proofs.Below.{◌≡◌, ℕ, ◌+◌, ◌-◌, ◌<◌, ◌≤◌, Bool, true, false, not, ◌&&◌, cond, leb, List, [], ◌∷◌, ◌++◌, length, take, drop, Option, Some, None, refl, sym, ap, ap₂, subst, ◌∙◌, arith, suc, length-map, length-append, length-take, length-drop, le-leb, take_all, PrefixValue, MpReach, MpUnreach, AreOctets, IsFrame, Message, Context, Parts, parts_of, marks_of, of_parts, of_verdict, out_of, update_of}
use Rattle.std.specs.Prelude.{zero}
use Rattle.bgp_wire.proofs.Std.{leb-true}
use Rattle.bgp_frame.specs.declared.kind.Kind.TheVariants as kind
use Rattle.bgp_attr.specs.declared.mp.MpReach.TheVariants as reach
use Rattle.bgp_attr.specs.declared.mp.MpUnreach.TheVariants as unreach
use Rattle.bgp_msg.specs.Prelude.{is_reset}
use Rattle.bgp_paths.specs.declared.families.PathFamilies.{PathFamilies}
use Rattle.bgp_paths.specs.declared.runs.PathRuns.{PathRuns}
use Rattle.bgp_paths.specs.Prelude.{ArePartRuns, AreRuns, first_or_zero, later_of, numbers_left, numbers_of, plain_body}
use Rattle.ristulva_c.specs.Paths.{ListsUnless, ListsUpdate, PathIds, ids_in, kept_numbers, path_numbers, reached_numbers, unreached_numbers}
use Rattle.ristulva_c.specs.Prelude.{Adds, Holds, IsRouteCursor, Lie, carries_ip6, copied, field_routes, parts_told, prefixes_left, reached_routes, unreached_routes, width_of}
use Rattle.ristulva_c.specs.Text.{IsWritten, Writing}
use Rattle.ristulva_c.specs.declared.status.TheConstants.{OK, ROOM}
use Rattle.ristulva_c.specs.declared.path_list.RouteCounts.{RouteCounts}
use Rattle.ristulva_c.specs.declared.prefixes.Prefixes.{Prefixes}
use Rattle.ristulva_c.specs.declared.route_list.RouteCursor.{RouteCursor}
use Rattle.ristulva_c.specs.steps.RouteList.{cursor_of}
use Rattle.ristulva_c.specs.steps.Paths.{AreCountsOf, all_counted, all_of, counted_numbers, reached_count, unreached_count}
use Rattle.ristulva_c.proofs.FewRoutes.{few_prefixes}
use Rattle.ristulva_c.proofs.PartPlaces.{lie}
use Rattle.ristulva_c.proofs.RouteLists.{all_lie, nlri_left, reached_left, room_in, unreached_left, withdrawn_left}
use Rattle.ristulva_c.proofs.Rows.{adds_join}

-- ---- by how many

pub counted_long : (ids : List ℕ) (n : ℕ) → length (counted_numbers ids n) ≡ n
counted_long ids zero = refl
counted_long ids (suc n) = ap suc (counted_long (later_of ids) n)

by_length : (ids : List ℕ) (ps : List PrefixValue) → path_numbers ids ps ≡ counted_numbers ids (length ps)
by_length ids [] = refl
by_length ids (p ∷ ps) = ap (λ (ns : List ℕ). first_or_zero ids ∷ ns) (by_length (later_of ids) ps)

counted_is : (ids left : List ℕ) (ps : List PrefixValue) (n : ℕ) → left ≡ ids → n ≡ length ps → path_numbers ids ps ≡ counted_numbers left n
counted_is ids left ps n same is = by_length ids ps ∙ ap₂ counted_numbers (sym same) (sym is)

unreached_is : (ids left : List ℕ) (o : Option MpUnreach) (n : ℕ) → left ≡ ids → n ≡ unreached_count o → unreached_numbers ids o ≡ counted_numbers left n
unreached_is ids left None n same is = ap (counted_numbers left) (sym is)
unreached_is ids left (Some (unreach.Ip4 routes)) n same is = counted_is ids left routes n same is
unreached_is ids left (Some (unreach.Ip6 routes)) n same is = counted_is ids left routes n same is

reached_is : (ids left : List ℕ) (o : Option MpReach) (n : ℕ) → left ≡ ids → n ≡ reached_count o → reached_numbers ids o ≡ counted_numbers left n
reached_is ids left None n same is = ap (counted_numbers left) (sym is)
reached_is ids left (Some (reach.Ip4 hop routes)) n same is = counted_is ids left routes n same is
reached_is ids left (Some (reach.Ip6 hop link routes)) n same is = counted_is ids left routes n same is

-- the identifiers of a body are those of its runs
record AreIds (ids : PathIds) (runs : PathRuns) : Type 0 where
  withdrawn : numbers_left runs.withdrawn ≡ ids.withdrawn
  unreached : numbers_left runs.unreached ≡ ids.unreached
  reached : numbers_left runs.reached ≡ ids.reached
  nlri : numbers_left runs.nlri ≡ ids.nlri

are_ids : (f : PathFamilies) (o : Option Parts) (runs : PathRuns) → ArePartRuns f o runs → AreIds (ids_in f o) runs
are_ids f None runs is = record { withdrawn = ap numbers_of is.0; unreached = ap numbers_of is.1; reached = ap numbers_of is.2; nlri = ap numbers_of is.3 }
are_ids f (Some p) runs is = record { withdrawn = ap numbers_of is.0; unreached = ap numbers_of is.1; reached = ap numbers_of is.2; nlri = ap numbers_of is.3 }

pub kept_counted : (ctx : Context) (f : PathFamilies) (body plain : List ℕ) (runs : PathRuns) (c : RouteCounts) → AreRuns f body runs → AreCountsOf ctx plain c
    → kept_numbers ctx (ids_in f (parts_of body)) (parts_of plain) ≡ all_counted runs c
kept_counted ctx f body plain runs c are counts =
    let ids = ids_in f (parts_of body) in
    let same = are_ids f (parts_of body) runs are in
    let u = update_of counts.parts (marks_of ctx counts.parts) in
    let n = counts.counts in
    ap (kept_numbers ctx ids) counts.whole
    ∙ ap₂ ◌++◌ (counted_is ids.withdrawn (numbers_left runs.withdrawn) u.withdrawn c.withdrawn same.withdrawn n.withdrawn)
    (ap₂ ◌++◌ (unreached_is ids.unreached (numbers_left runs.unreached) u.attrs.mp_unreach c.unreached same.unreached n.unreached)
    (ap₂ ◌++◌ (reached_is ids.reached (numbers_left runs.reached) u.attrs.mp_reach c.reached same.reached n.reached)
    (counted_is ids.nlri (numbers_left runs.nlri) u.nlri c.nlri same.nlri n.nlri)))

pub all_long : (runs : PathRuns) (c : RouteCounts) → length (all_counted runs c) ≡ all_of c
all_long runs c =
    let w = counted_numbers (numbers_left runs.withdrawn) c.withdrawn in
    let u = counted_numbers (numbers_left runs.unreached) c.unreached in
    let r = counted_numbers (numbers_left runs.reached) c.reached in
    let n = counted_numbers (numbers_left runs.nlri) c.nlri in
    omega (
      arith,
      length-append w (u ++ (r ++ n)),
      length-append u (r ++ n),
      length-append r n,
      counted_long (numbers_left runs.withdrawn) c.withdrawn,
      counted_long (numbers_left runs.unreached) c.unreached,
      counted_long (numbers_left runs.reached) c.reached,
      counted_long (numbers_left runs.nlri) c.nlri,
    )

-- ---- in the list

copied_at : (numbers old : List ℕ) (t : Bool) → leb (length numbers) (length old) ≡ t → length numbers ≤ length old → numbers ++ drop (length numbers) old ≡ cond t (numbers ++ drop (length numbers) old) old
copied_at numbers old true is le = refl
copied_at numbers old false is le = absurd (let e : false ≡ true = sym is ∙ le-leb (length numbers) (length old) le in cc)

pub copied_adds : (numbers old new : List ℕ) (to : ℕ) → Adds numbers 0 to old new → new ≡ copied numbers old
copied_adds numbers old new to adds =
    let h : Holds numbers to new old = adds [] old (record { stand = refl; counted = refl; room = omega arith }) in
    h.stand ∙ ap (λ (n : ℕ). numbers ++ drop n old) (sym h.counted)
    ∙ copied_at numbers old (leb (length numbers) (length old)) refl (omega (arith, h.counted, h.room))

pub four_added : (w u r n : List ℕ) (a b c d e : ℕ) (l m o q s : List ℕ) → Adds w a b l m → Adds u b c m o → Adds r c d o q → Adds n d e q s → Adds (w ++ (u ++ (r ++ n))) a e l s
four_added w u r n a b c d e l m o q s one two three four =
    adds_join w (u ++ (r ++ n)) a b e l m s one (adds_join u (r ++ n) b c e m o s two (adds_join r n c d e o q s three four))

pub no_room : (numbers old : List ℕ) (n before : ℕ) → length numbers ≡ n → length old < n
    → IsWritten numbers (record { status = ROOM; before = old; behind = old; len_before = before; len_behind = n })
no_room numbers old n before is less = by_test (leb (length numbers) (length old)) refl
  where
    by_test : (t : Bool) → leb (length numbers) (length old) ≡ t → IsWritten numbers (record { status = ROOM; before = old; behind = old; len_before = before; len_behind = n })
    by_test true e = absurd (omega (arith, is, less, leb-true (length numbers) (length old) e))
    by_test false e = record {
      status = sym (ap (λ (t : Bool). cond t OK ROOM) e);
      buffer = sym (ap (λ (t : Bool). cond t (numbers ++ drop (length numbers) old) old) e);
      len = sym is;
    }

pub has_room : (numbers old new : List ℕ) (n before : ℕ) → length numbers ≡ n → n ≤ length old → new ≡ copied numbers old
    → IsWritten numbers (record { status = OK; before = old; behind = new; len_before = before; len_behind = n })
has_room numbers old new n before is fits same = record {
  status = sym (ap (λ (t : Bool). cond t OK ROOM) (le-leb (length numbers) (length old) (omega (arith, is, fits))));
  buffer = same;
  len = sym is;
}

pub lists : (ctx : Context) (f : PathFamilies) (body : List ℕ) (runs : PathRuns) (c : RouteCounts) (w : Writing) → AreRuns f body runs → AreCountsOf ctx (plain_body f body) c
    → IsWritten (all_counted runs c) w → ListsUpdate ctx f body w
lists ctx f body runs c w are counts written =
    let numbers = kept_numbers ctx (ids_in f (parts_of body)) (parts_of (plain_body f body)) in
    subst (λ (t : Bool). ListsUnless t numbers w) (sym counts.goes_on)
    (subst (λ (ns : List ℕ). IsWritten ns w) (sym (kept_counted ctx f body (plain_body f body) runs c are counts)) written)

-- ---- of a message

unreached_long : (o : Option MpUnreach) → length (unreached_routes o) ≡ unreached_count o
unreached_long None = refl
unreached_long (Some (unreach.Ip4 routes)) = length-map routes _
unreached_long (Some (unreach.Ip6 routes)) = length-map routes _

reached_long : (a : Bool) (o : Option MpReach) → length (reached_routes a o) ≡ reached_count o
reached_long a None = refl
reached_long a (Some (reach.Ip4 hop routes)) = length-map routes _
reached_long a (Some (reach.Ip6 hop link routes)) = length-map routes _

module _ (octets : List ℕ) where
  field_long : (a : Bool) (c : Prefixes) → length (field_routes a octets c) ≡ length (prefixes_left octets c)
  field_long a c = length-map (prefixes_left octets c) _

  pub few_left : (c : Prefixes) → length (prefixes_left octets c) ≤ length octets
  few_left c =
      let n = c.end - c.at in
      omega (arith, few_prefixes (width_of c.afi) (take n (drop c.at octets)), length-take n (drop c.at octets), length-drop c.at octets)

module _ (ctx : Context) (octets body : List ℕ) where
  abbrev message : Message
  message = record { kind = kind.Update; body = body }

  abbrev pub GoesOn : Type 0
  GoesOn = is_reset (out_of ctx message) ≡ false

  abbrev pub IsFor : RouteCursor → Type 0
  IsFor c = (p : Parts) → parts_of body ≡ Some p → c ≡ cursor_of ctx true (not ctx.ip6 && carries_ip6 (Some p)) p

  abbrev HasParts : Type 0
  HasParts = (p : Parts) × (parts_of body ≡ Some p)

  has_parts : GoesOn → HasParts
  has_parts goes_on = by_parts (parts_of body) refl goes_on
    where
      by_parts : (o : Option Parts) → parts_of body ≡ o → is_reset (of_verdict (of_parts ctx o)) ≡ false → HasParts
      by_parts None is e = absurd cc
      by_parts (Some p) is e = (p, is)

  module _ (are : AreOctets octets) (frame : IsFrame message octets) (short : length octets ≤ 4096) (c : RouteCursor) (is_for : IsFor c) (goes_on : GoesOn) where
    abbrev p : Parts
    p = (has_parts goes_on).0

    whole : parts_of body ≡ Some p
    whole = (has_parts goes_on).1

    framed : IsFrame message (take (length octets) octets)
    framed = subst (IsFrame message) (sym (take_all (length octets) octets (omega arith))) frame

    there : Lie octets p (parts_told (Some p))
    there = lie octets (length octets) message p are framed whole

    room : 23 + length p.withdrawn + length p.attributes + length p.nlri ≤ length octets
    room = room_in octets (length octets) message are framed p whole

    abbrev loses : Bool
    loses = not ctx.ip6 && carries_ip6 (Some p)

    pub cursor_lies : IsRouteCursor octets c
    cursor_lies = subst (IsRouteCursor octets) (sym (is_for p whole)) (all_lie octets p there room ctx true loses)

    pub counts_are : (n : RouteCounts) → n.withdrawn ≡ length (prefixes_left octets c.withdrawn) → n.unreached ≡ length (prefixes_left octets c.unreached)
        → n.reached ≡ length (prefixes_left octets c.reached) → n.nlri ≡ length (prefixes_left octets c.nlri) → AreCountsOf ctx body n
    counts_are n w u r l =
        let at = cursor_of ctx true loses p in
        let same : c ≡ at = is_for p whole in
        let kept = update_of p (marks_of ctx p) in
        record {
          parts = p;
          whole = whole;
          goes_on = goes_on;
          counts = record {
            withdrawn = w ∙ ap (λ (x : RouteCursor). length (prefixes_left octets x.withdrawn)) same ∙ ap length (withdrawn_left octets p there room ctx true loses);
            unreached = u ∙ ap (λ (x : RouteCursor). length (prefixes_left octets x.unreached)) same ∙ sym (field_long octets false at.unreached)
                ∙ ap length (unreached_left octets p there room ctx true loses) ∙ unreached_long kept.attrs.mp_unreach;
            reached = r ∙ ap (λ (x : RouteCursor). length (prefixes_left octets x.reached)) same ∙ sym (field_long octets true at.reached)
                ∙ ap length (reached_left octets p there room ctx true loses) ∙ reached_long true kept.attrs.mp_reach;
            nlri = l ∙ ap (λ (x : RouteCursor). length (prefixes_left octets x.nlri)) same ∙ ap length (nlri_left octets p there room ctx true loses);
          };
          few = record {
            withdrawn = omega (arith, w, few_left octets c.withdrawn, short);
            unreached = omega (arith, u, few_left octets c.unreached, short);
            reached = omega (arith, r, few_left octets c.reached, short);
            nlri = omega (arith, l, few_left octets c.nlri, short);
          };
        }
