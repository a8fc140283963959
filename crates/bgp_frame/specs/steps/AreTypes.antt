-- Proofs that headers say the types and lengths of each grammar: a law of a trait takes its proof from `specs/`.
use Rattle.std.specs.Prelude.{◌≡◌, ◌≤◌, ◌<◌, ◌^◌}
use Rattle.bgp_wire.proofs.Std.{ℕ, Bool, true, false, cond, eqb, Option, Some, None, option_map, refl, ap, subst, ◌∙◌, arith}
use Rattle.std.proofs.lemmas.Bool.{eqb-true}
use Rattle.bgp_numbers.specs.declared.message.TheConstants.{OPEN, UPDATE, NOTIFICATION, KEEPALIVE, ROUTE_REFRESH}
use Rattle.bgp_frame.specs.declared.kind.Kind.{Kind}
use Rattle.bgp_frame.specs.declared.kind.Kind.TheVariants.{Open, Update, Notification, Keepalive}
use Rattle.bgp_frame.specs.declared.kind.WideKind.{WideKind}
use Rattle.bgp_frame.specs.declared.kind.WideKind.TheVariants as wide
use Rattle.bgp_frame.specs.declared.grammar.WideGrammar.{WideGrammar}
use Rattle.bgp_frame.specs.Types.{AreTypes}
use Rattle.bgp_frame.specs.Kind.{plain, code_of, kind_of, least_length, most_length}
use Rattle.bgp_frame.specs.WideKind.{base_most, limit_of, wide_code, wide_kind, wide_least, wide_most, wide_types}

-- ---- the types of RFC 4271

pub kind_of-code_of : (kind : Kind) → kind_of (code_of kind) ≡ Some kind
kind_of-code_of Open = refl
kind_of-code_of Update = refl
kind_of-code_of Notification = refl
kind_of-code_of Keepalive = refl

abbrev kind_by : Bool → Bool → Bool → Bool → Option Kind
kind_by b1 b2 b3 b4 = cond b1 (Some Open) (cond b2 (Some Update) (cond b3 (Some Notification) (cond b4 (Some Keepalive) None)))

kind_tests : (n : ℕ) (kind : Kind) (b1 b2 b3 b4 : Bool) → eqb n OPEN ≡ b1 → eqb n UPDATE ≡ b2 → eqb n NOTIFICATION ≡ b3 → eqb n KEEPALIVE ≡ b4 → kind_by b1 b2 b3 b4 ≡ Some kind → n ≡ code_of kind
kind_tests n kind true b2 b3 b4 e1 e2 e3 e4 e = subst (λ (k : Kind). n ≡ code_of k) (let same : Open ≡ kind = cc in same) (eqb-true n OPEN e1)
kind_tests n kind false true b3 b4 e1 e2 e3 e4 e = subst (λ (k : Kind). n ≡ code_of k) (let same : Update ≡ kind = cc in same) (eqb-true n UPDATE e2)
kind_tests n kind false false true b4 e1 e2 e3 e4 e = subst (λ (k : Kind). n ≡ code_of k) (let same : Notification ≡ kind = cc in same) (eqb-true n NOTIFICATION e3)
kind_tests n kind false false false true e1 e2 e3 e4 e = subst (λ (k : Kind). n ≡ code_of k) (let same : Keepalive ≡ kind = cc in same) (eqb-true n KEEPALIVE e4)
kind_tests n kind false false false false e1 e2 e3 e4 e = absurd cc

pub code_of-kind_of : (n : ℕ) (kind : Kind) → kind_of n ≡ Some kind → n ≡ code_of kind
code_of-kind_of n kind e = kind_tests n kind (eqb n OPEN) (eqb n UPDATE) (eqb n NOTIFICATION) (eqb n KEEPALIVE) refl refl refl refl e

least_is_least : (kind : Kind) → 19 ≤ least_length kind
least_is_least Open = omega arith
least_is_least Update = omega arith
least_is_least Notification = omega arith
least_is_least Keepalive = omega arith

most_is_most : (kind : Kind) → most_length kind ≤ 4096
most_is_most Open = omega arith
most_is_most Update = omega arith
most_is_most Notification = omega arith
most_is_most Keepalive = omega arith

pub plain-are : AreTypes plain
plain-are = record { found = λ k n fits. kind_of-code_of k; only = code_of-kind_of; long = least_is_least; short = most_is_most; room = omega arith; small = omega arith }

-- ---- those that two speakers agree on

found_by : (refresh long : Bool) (k : WideKind) (n : ℕ) → wide_least k ≤ n → n ≤ wide_most refresh (limit_of long) k → wide_kind refresh (wide_code k) ≡ Some k
found_by refresh long (wide.Base Open) n least most = refl
found_by refresh long (wide.Base Update) n least most = refl
found_by refresh long (wide.Base Notification) n least most = refl
found_by refresh long (wide.Base Keepalive) n least most = refl
found_by true long wide.Refresh n least most = refl
found_by false long wide.Refresh n least most = absurd (omega (arith, least, most))

only_base : (n : ℕ) (o : Option Kind) (k : WideKind) → kind_of n ≡ o → option_map wide.Base o ≡ Some k → n ≡ wide_code k
only_base n None k e is = absurd cc
only_base n (Some kind) k e is = code_of-kind_of n kind e ∙ ap wide_code (let same : wide.Base kind ≡ k = cc in same)

only_by : (refresh : Bool) (n : ℕ) (k : WideKind) (t : Bool) → eqb n ROUTE_REFRESH ≡ t → cond t (cond refresh (Some wide.Refresh) None) (option_map wide.Base (kind_of n)) ≡ Some k → n ≡ wide_code k
only_by true n k true e is = eqb-true n ROUTE_REFRESH e ∙ ap wide_code (let same : wide.Refresh ≡ k = cc in same)
only_by false n k true e is = absurd cc
only_by refresh n k false e is = only_base n (kind_of n) k refl is

long_by : (k : WideKind) → 19 ≤ wide_least k
long_by (wide.Base kind) = least_is_least kind
long_by wide.Refresh = omega arith

short_base : (limit : ℕ) (kind : Kind) → 4096 ≤ limit → base_most limit kind ≤ limit
short_base limit Open room = room
short_base limit Update room = omega arith
short_base limit Notification room = omega arith
short_base limit Keepalive room = omega (arith, room)

short_by : (refresh : Bool) (limit : ℕ) (k : WideKind) → 4096 ≤ limit → wide_most refresh limit k ≤ limit
short_by refresh limit (wide.Base kind) room = short_base limit kind room
short_by true limit wide.Refresh room = omega arith
short_by false limit wide.Refresh room = omega arith

room_by : (long : Bool) → 4096 ≤ limit_of long
room_by true = omega arith
room_by false = omega arith

small_by : (long : Bool) → limit_of long < 2 ^ 16
small_by true = omega arith
small_by false = omega arith

pub wide-are : (g : WideGrammar) → AreTypes (wide_types g)
wide-are g = record {
  found = λ k n fits. found_by g.refresh g.long k n fits.least fits.most;
  only = λ n k e. only_by g.refresh n k (eqb n ROUTE_REFRESH) refl e;
  long = long_by;
  short = λ k. short_by g.refresh (limit_of g.long) k (room_by g.long);
  room = let room = room_by g.long in omega (arith, room);
  small = small_by g.long;
}
