use Rattle.ristulva_c.proofs.Below.{ℕ, ◌+◌, List, length, map, sym, ap, subst, ◌∙◌, as_numbers_left, segment_value, Segment, joined_value, joined_left}
use Rattle.ristulva_c.specs.declared.number_rows.NumberRow.{NumberRow}
use Rattle.ristulva_c.specs.Prelude.{Adds, with_number}
use Rattle.ristulva_c.proofs.NumberRows.{IsPathWriting, path_begins, path_more, path_done}
use Rattle.ristulva_c.proofs.number_rows.put_path.Goals as goal

pub path-init : goal.path-init
path-init c =
    let all = (joined_value c.args.path.now).segments in
    subst (λ (left : List Segment). IsPathWriting c.args.message all left 0 c.args.from c.args.from c.args.list.now c.args.list.now)
    (sym c.segments-left.ensures) (path_begins c.args.message all c.args.from c.args.list.now)

pub path-preserved : goal.path-preserved
path-preserved c =
    let row : ℕ → NumberRow = λ set. record { message = c.args.message; number = 0; segment = c.path.segment; set = set; reserved = 0 } in
    let rows : ℕ → List NumberRow = λ set. map (with_number (row set)) (as_numbers_left c.in-Some.found.numbers) in
    path_more c.args.message (joined_value c.args.path.now).segments (joined_left c.path.left) (joined_left c.next.new.self) c.path.segment c.args.from c.path.to c.put_rows-to.result
    c.args.list.now c.path.list c.put_rows-to.new.list (segment_value c.in-Some.found) c.path.invariant c.in-Some.ensures.steps
    (subst (λ (set : ℕ). Adds (rows set) c.path.to c.put_rows-to.result c.path.list c.put_rows-to.new.list) c.set_flag.ensures c.put_rows-to.ensures.adds)
    (c.put_rows-to.ensures.to ∙ ap (λ (set : ℕ). c.path.to + length (rows set)) c.set_flag.ensures)

pub returns : goal.returns
returns c =
    path_done c.args.message (joined_value c.args.path.now).segments (joined_left c.path.left) c.path.segment c.args.from c.path.to c.args.list.now c.path.list c.path.invariant c.in_default.ensures.steps.0
