-- Tests in their order: when none applies, and the row of each type. And the reasons why an attribute isn't written,
-- in theirs.
use Rattle.bgp_wire.proofs.Std.{◌≡◌, ℕ, Bool, true, false, ◌&&◌, List, [], ◌∷◌, Option, Some, None, refl, sym, ap, subst, ◌∙◌, AllByRecursion, false≢true}
use Rattle.std.specs.Prelude.{option_map, is_none, not, ◌==◌, if◌then◌else◌}
use Rattle.std.proofs.lemmas.Bool.{true≢false}
use Rattle.std.specs.Option.{option_or}
use Rattle.bgp_numbers.specs.declared.error.TheConstants.{UPDATE_MESSAGE}
use Rattle.bgp_wire.specs.Prelude.{when}
use Rattle.bgp_open.specs.declared.context.Context.{Context}
use Rattle.bgp_attr.specs.declared.attr.Attr.{Attr}
use Rattle.bgp_attr.specs.declared.judged.Judged.{Judged}
use Rattle.bgp_attr.specs.declared.why.Why.{Why}
use Rattle.bgp_attr.specs.declared.path_form.PathForm.{PathForm}
use Rattle.bgp_attr.specs.Prelude.{TlvValue, entry_of, is_known, segment_fault, segments_of, path_fault, AttributeType, is_recognised, types, other_type, type_row, decided, judgement, is_too_wide, is_as4, is_empty, is_misnamed, has_as_zero, stands_twice, is_too_long, why_unless, is_writable}
use Rattle.bgp_attr.specs.declared.judged.Judged.TheVariants as judged
use Rattle.bgp_attr.specs.declared.unwritable.Unwritable.{Unwritable}
use Rattle.bgp_attr.specs.declared.why.Why.TheVariants as why
use Rattle.bgp_attr.proofs.Tables.{EachRow, by_row, entry-other}

-- ---- tests in their order

-- none of the tests applies
abbrev pub NoneApplies : List (Option Judged) → Type 0
NoneApplies tests = AllByRecursion (λ o. o ≡ None) tests

none-decided : (tests : List (Option Judged)) (a : Attr) → NoneApplies tests → decided tests a ≡ judged.Keep a
none-decided [] a none = refl
none-decided (None ∷ tests) a none = none-decided tests a none.1
none-decided (Some j ∷ tests) a none = absurd (let is : Some j ≡ None = none.0 in cc)

pub pass : (b : Bool) (j : Judged) → b ≡ false → when b j ≡ None
pass b j e = ap (λ (t : Bool). when t j) e

pub passed : (b : Bool) (j : Judged) → when b j ≡ None → b ≡ false
passed false j e = refl
passed true j e = absurd cc

pub pass_fault : (f : Why → Judged) (o : Option Why) → o ≡ None → option_map f o ≡ None
pass_fault f o e = ap (λ (x : Option Why). option_map f x) e

pub passed_fault : (f : Why → Judged) (o : Option Why) → option_map f o ≡ None → o ≡ None
passed_fault f None e = refl
passed_fault f (Some w) e = absurd cc

-- no test says that an attribute is repeated
abbrev pub IsOfOne : Why → Type 0
IsOfOne why.Repeated = ⊥
IsOfOne _ = Unit {0}

-- what a test gives: it keeps nothing, and a reset has the code of an UPDATE Message Error
abbrev pub IsRefusal : Judged → Type 0
IsRefusal (judged.Keep a) = ⊥
IsRefusal (judged.Discard w) = IsOfOne w
IsRefusal (judged.Withdraw w) = Unit {0}
IsRefusal (judged.Reset n) = n.code ≡ UPDATE_MESSAGE

abbrev pub Refuses : Option Judged → Type 0
Refuses None = Unit {0}
Refuses (Some j) = IsRefusal j

-- each test refuses, where it applies
pub record AllRefuse (tests : List (Option Judged)) : Type 0 where
  pub each : AllByRecursion Refuses tests

pub no_more : AllRefuse []
no_more = record { each = tt }

when_refuses : (b : Bool) (j : Judged) → IsRefusal j → Refuses (when b j)
when_refuses true j h = h
when_refuses false j h = tt

pub test : {tests : List (Option Judged)} (b : Bool) (j : Judged) → IsRefusal j → AllRefuse tests → AllRefuse (when b j ∷ tests)
test b j h later = record { each = (when_refuses b j h, later.each) }

abbrev IsOfOneIfAny : Option Why → Type 0
IsOfOneIfAny None = Unit {0}
IsOfOneIfAny (Some w) = IsOfOne w

mapped_refuses : (f : Why → Judged) (o : Option Why) → IsOfOneIfAny o → ((w : Why) → IsOfOne w → IsRefusal (f w)) → Refuses (option_map f o)
mapped_refuses f None one h = tt
mapped_refuses f (Some w) one h = h w one

pub fault : {tests : List (Option Judged)} (f : Why → Judged) (o : Option Why) → IsOfOneIfAny o → ((w : Why) → IsOfOne w → IsRefusal (f w)) → AllRefuse tests → AllRefuse (option_map f o ∷ tests)
fault f o one h later = record { each = (mapped_refuses f o one h, later.each) }

-- a fault of a path doesn't say so either
segment_of_one : (unknown none : Bool) → IsOfOneIfAny (if unknown then Some why.SegmentType else (if none then Some why.SegmentCount else Some why.SegmentEnd))
segment_of_one true none = tt
segment_of_one false true = tt
segment_of_one false false = tt

rest_of_one : (form : PathForm) (b : List ℕ) → IsOfOneIfAny (segment_fault form b)
rest_of_one form [] = tt
rest_of_one form (code ∷ []) = tt
rest_of_one form (code ∷ count ∷ b) = segment_of_one (not (is_known form code)) (count == 0)

pub path_of_one : (form : PathForm) (b : List ℕ) → IsOfOneIfAny (path_fault form b)
path_of_one form b = rest_of_one form (segments_of form b).1

-- a path's fault and its AS number 0 are two tests, found in one pass
pub path_decided : (answer : Why → Judged) (o : Option Why) (has_zero : Bool) (tests : List (Option Judged)) (a : Attr)
    → decided (option_map answer (option_or o (when has_zero why.AsZero)) ∷ tests) a ≡ decided (option_map answer o ∷ when has_zero (answer why.AsZero) ∷ tests) a
path_decided answer None true tests a = refl
path_decided answer None false tests a = refl
path_decided answer (Some w) has_zero tests a = refl

-- where tests only refuse, a value is kept because none applies
pub decided-kept : (tests : List (Option Judged)) (a b : Attr) → AllByRecursion Refuses tests → decided tests a ≡ judged.Keep b → NoneApplies tests × (a ≡ b)
decided-kept [] a b all e = (tt, cc)
decided-kept (None ∷ tests) a b all e = let p = decided-kept tests a b all.1 e in ((refl, p.0), p.1)
decided-kept (Some j ∷ tests) a b all e = absurd (subst IsRefusal e all.0)

pub decided_by : (P : Judged → Type 0) (a : Attr) → P (judged.Keep a) → ((j : Judged) → IsRefusal j → P j) → (tests : List (Option Judged)) → AllByRecursion Refuses tests → P (decided tests a)
decided_by P a kept refused [] all = kept
decided_by P a kept refused (None ∷ tests) all = decided_by P a kept refused tests all.1
decided_by P a kept refused (Some j ∷ tests) all = refused j all.0

-- ---- the row of a type

module _ (ctx : Context) (has_nlri : Bool) (t : TlvValue) where
  -- the row that the table has for a number
  abbrev pub row_at : ℕ → AttributeType
  row_at kind = entry_of kind (types ctx has_nlri t) (other_type t)

  pub row-at : (kind : ℕ) → t.kind ≡ kind → type_row ctx has_nlri t ≡ row_at kind
  unfolding type_row
  row-at kind e = ap row_at e

  pub judged-at : (kind : ℕ) → t.kind ≡ kind → judgement ctx has_nlri t ≡ decided (row_at kind).tests (row_at kind).value
  judged-at kind e = ap (λ (type : AttributeType). decided type.tests type.value) (row-at kind e)

  -- its tests
  pub tests_at : (kind : ℕ) → t.kind ≡ kind → (a : Attr) → decided (row_at kind).tests a ≡ decided (type_row ctx has_nlri t).tests a
  tests_at kind e a = ap (λ (type : AttributeType). decided type.tests a) (sym (row-at kind e))

  -- its value
  pub value_at : (kind : ℕ) → t.kind ≡ kind → (row_at kind).value ≡ (type_row ctx has_nlri t).value
  value_at kind e = ap (λ (type : AttributeType). type.value) (sym (row-at kind e))

  pub row-other : is_recognised t.kind ≡ false → type_row ctx has_nlri t ≡ other_type t
  unfolding type_row
  row-other other = entry-other t.kind (other_type t) (types ctx has_nlri t) other

  -- what holds of each row, and of that of all other types, holds of the attribute's
  pub by_type : (P : AttributeType → Type 0) → EachRow (λ kind type. t.kind ≡ kind → P type) (types ctx has_nlri t) → (is_recognised t.kind ≡ false → P (other_type t)) → P (type_row ctx has_nlri t)
  unfolding type_row
  by_type P each other = by_row t.kind (other_type t) (λ kind type. t.kind ≡ kind → P type) (types ctx has_nlri t) each (λ none e. other none) refl

  -- the value is kept where none of its tests applies, and only there
  pub keeps : (type : AttributeType) (a : Attr) → type_row ctx has_nlri t ≡ type → type.value ≡ a → NoneApplies type.tests → judgement ctx has_nlri t ≡ judged.Keep a
  keeps type a is value none =
      ap (λ (y : AttributeType). decided y.tests y.value) is ∙ none-decided type.tests type.value none ∙ ap (λ (x : Attr). judged.Keep x) value

-- ---- what is written

-- each reason not to write an attribute, absent
pub record Writes (ctx : Context) (a : Attr) : Type 0 where
  pub narrow : is_too_wide ctx a ≡ false
  pub allowed : (ctx.as4 && is_as4 a) ≡ false
  pub some : is_empty a ≡ false
  pub named : is_misnamed a ≡ false
  pub nonzero : has_as_zero a ≡ false
  pub once : stands_twice a ≡ false
  pub fits : is_too_long ctx a ≡ false

none_why : (b : Bool) (why : Unwritable) (later : Option Unwritable) → is_none (why_unless b why later) ≡ true → (b ≡ false) × (is_none later ≡ true)
none_why false why later e = (refl, e)
none_why true why later e = absurd (false≢true e)

why_none : (b : Bool) (why : Unwritable) (later : Option Unwritable) → b ≡ false → is_none later ≡ true → is_none (why_unless b why later) ≡ true
why_none false why later e more = more
why_none true why later e more = absurd (true≢false e)

pub writable-Writes : (ctx : Context) (a : Attr) → is_writable ctx a ≡ true → Writes ctx a
writable-Writes ctx a e =
    let p = none_why (is_too_wide ctx a) _ _ e in
    let q = none_why (ctx.as4 && is_as4 a) _ _ p.1 in
    let r = none_why (is_empty a) _ _ q.1 in
    let s = none_why (is_misnamed a) _ _ r.1 in
    let t = none_why (has_as_zero a) _ _ s.1 in
    let u = none_why (stands_twice a) _ _ t.1 in
    let v = none_why (is_too_long ctx a) _ _ u.1 in
    record { narrow = p.0; allowed = q.0; some = r.0; named = s.0; nonzero = t.0; once = u.0; fits = v.0 }

pub Writes-writable : (ctx : Context) (a : Attr) → Writes ctx a → is_writable ctx a ≡ true
Writes-writable ctx a w =
    why_none (is_too_wide ctx a) _ _ w.narrow (why_none (ctx.as4 && is_as4 a) _ _ w.allowed (why_none (is_empty a) _ _ w.some (
    why_none (is_misnamed a) _ _ w.named (why_none (has_as_zero a) _ _ w.nonzero (why_none (stands_twice a) _ _ w.once (why_none (is_too_long ctx a) _ _ w.fits refl))))))
