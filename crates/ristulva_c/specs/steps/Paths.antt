-- The path identifiers of n routes.
use Rattle.std.specs.Prelude.{◌≡◌, ◌+◌, ◌≤◌, ℕ, zero, suc, true, false, List, [], ◌∷◌, ◌++◌, length, Option, Some, None}
use Rattle.bgp_frame.specs.declared.kind.Kind.TheVariants as kind
use Rattle.bgp_attr.specs.declared.mp.MpReach.{MpReach}
use Rattle.bgp_attr.specs.declared.mp.MpUnreach.{MpUnreach}
use Rattle.bgp_msg.specs.Prelude.{is_reset, out_of}
use Rattle.bgp_open.specs.declared.context.Context.{Context}
use Rattle.bgp_paths.specs.declared.runs.PathRuns.{PathRuns}
use Rattle.bgp_paths.specs.Prelude.{first_or_zero, later_of, numbers_left}
use Rattle.bgp_update.specs.declared.update.Update.{Update}
use Rattle.bgp_update.specs.Prelude.{Parts, marks_of, parts_of, update_of}
use Rattle.ristulva_c.specs.declared.path_list.RouteCounts.{RouteCounts}
use Rattle.ristulva_c.specs.Routes.{reach_prefixes, unreach_prefixes}

-- 0 where none is left
abbrev pub counted_numbers : List ℕ → ℕ → List ℕ
counted_numbers ids zero = []
counted_numbers ids (suc n) = first_or_zero ids ∷ counted_numbers (later_of ids) n

abbrev pub all_counted : PathRuns → RouteCounts → List ℕ
all_counted runs c =
    counted_numbers (numbers_left runs.withdrawn) c.withdrawn
    ++ (counted_numbers (numbers_left runs.unreached) c.unreached
    ++ (counted_numbers (numbers_left runs.reached) c.reached ++ counted_numbers (numbers_left runs.nlri) c.nlri))

abbrev pub all_of : RouteCounts → ℕ
all_of c = c.withdrawn + c.unreached + c.reached + c.nlri

abbrev pub unreached_count : Option MpUnreach → ℕ
unreached_count None = 0
unreached_count (Some r) = length (unreach_prefixes r)

abbrev pub reached_count : Option MpReach → ℕ
reached_count None = 0
reached_count (Some r) = length (reach_prefixes r)

-- how many an UPDATE has
pub record AreCounts (u : Update) (c : RouteCounts) : Type 0 where
  pub withdrawn : c.withdrawn ≡ length u.withdrawn
  pub unreached : c.unreached ≡ unreached_count u.attrs.mp_unreach
  pub reached : c.reached ≡ reached_count u.attrs.mp_reach
  pub nlri : c.nlri ≡ length u.nlri

-- no more than a message has octets
pub record AreFew (c : RouteCounts) : Type 0 where
  pub withdrawn : c.withdrawn ≤ 4096
  pub unreached : c.unreached ≤ 4096
  pub reached : c.reached ≤ 4096
  pub nlri : c.nlri ≤ 4096

-- of the parts of a body
pub record AreCountsOf (ctx : Context) (body : List ℕ) (c : RouteCounts) : Type 0 where
  pub parts : Parts
  pub whole : parts_of body ≡ Some parts
  pub goes_on : is_reset (out_of ctx (record { kind = kind.Update; body = body })) ≡ false
  pub counts : AreCounts (update_of parts (marks_of ctx parts)) c
  pub few : AreFew c

-- none where it ends the session
abbrev pub AreFound : Context → List ℕ → Option RouteCounts → Type 0
AreFound ctx body None = is_reset (out_of ctx (record { kind = kind.Update; body = body })) ≡ true
AreFound ctx body (Some c) = AreCountsOf ctx body c
