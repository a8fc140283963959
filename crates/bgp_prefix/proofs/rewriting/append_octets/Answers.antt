use Rattle.bgp_wire.proofs.Std.{List, ℕ, ◌∷◌, ◌++◌, ap, sym, ◌∙◌, err_from_is_err_and, flat_map-cons, flat_map}
use Rattle.bgp_wire.proofs.Rooms.{extends_more, lacks}
use Rattle.bgp_wire.proofs.Walks.{shorter, adds, added, first_then}
use Rattle.bgp_prefix.specs.Prelude.{leading_bits, PrefixValue, IsPrefix, one_prefix, prefix_of, spelling_of, run_of}
use Rattle.bgp_prefix.proofs.PrefixLemmas.{IsPrefix-reads}
use Rattle.bgp_prefix.proofs.WrittenFronts.{written_front}
use Rattle.bgp_prefix.proofs.rewriting.append_octets.Goals as goal

pub run-smaller : goal.run-smaller
run-smaller g c = shorter PrefixValue (IsPrefix g.row.W) (one_prefix g.row.W) (IsPrefix-reads g.row.W) c.run.rest.now _ c.in-Some.front.after.now c.in-Some.ensures.value

pub run-preserved : goal.run-preserved
run-preserved g c =
    let f = c.in-Some.front in
    let written = g.O.Output.written in
    let so_far = c.run.invariant.begins in
    record {
      whole = adds PrefixValue (IsPrefix g.row.W) (one_prefix g.row.W) (IsPrefix-reads g.row.W) spelling_of c.run.rest.now (prefix_of g.row.W f.len f.read.now) f.after.now (written c.run.out) (written c.append_front.new.out)
          (written c.args.out.now ++ flat_map spelling_of (run_of g.row.W c.args.octets.now).0) c.in-Some.ensures.value
          (c.in_ok-append_front.ensures.ok ∙ ap (λ (b : List ℕ). written c.run.out ++ b) (sym (written_front g.row.W f.len f.read.now c.in-Some.ensures.held))) c.run.invariant.whole;
      begins = extends_more (written c.args.out.now) (written c.run.out) (written c.append_front.new.out) so_far.0 so_far.1 (_, c.in_ok-append_front.ensures.ok);
    }

pub returns-in_err-append_front-clause-err : goal.returns-in_err-append_front-clause-err
returns-in_err-append_front-clause-err g c =
    let p = err_from_is_err_and c.from_residual.result c.from_residual.ensures.1 in
    let written = g.O.Output.written in
    let so_far = c.run.invariant.begins in
    rw p.1 (extends_more (written c.args.out.now) (written c.run.out) (written c.append_front.new.out) so_far.0 so_far.1 c.in_err-append_front.ensures.err)

pub returns-in_err-append_front-clause-full : goal.returns-in_err-append_front-clause-full
returns-in_err-append_front-clause-full g c =
    let f = c.in-Some.front in
    let p = err_from_is_err_and c.from_residual.result c.from_residual.ensures.1 in
    let written = g.O.Output.written in
    let left : List PrefixValue = (run_of g.row.W f.after.now).0 in
    rw p.1 (lacks g.O.Output.room (written c.args.out.now) (flat_map spelling_of (run_of g.row.W c.args.octets.now).0) (written c.run.out)
    (flat_map spelling_of (run_of g.row.W c.run.rest.now).0) (f.len ∷ leading_bits f.len f.read.now) (flat_map spelling_of left) c.run.invariant.whole
    (ap (flat_map spelling_of) (first_then PrefixValue (IsPrefix g.row.W) (one_prefix g.row.W) (IsPrefix-reads g.row.W) c.run.rest.now _ f.after.now c.in-Some.ensures.value)
    ∙ flat_map-cons spelling_of (prefix_of g.row.W f.len f.read.now) left
    ∙ ap (λ (b : List ℕ). b ++ flat_map spelling_of left) (written_front g.row.W f.len f.read.now c.in-Some.ensures.held))
    c.in_err-append_front.ensures.full)

pub returns-clause-ok : goal.returns-clause-ok
returns-clause-ok g c =
    let written = g.O.Output.written in
    added PrefixValue (IsPrefix g.row.W) (one_prefix g.row.W) (IsPrefix-reads g.row.W) spelling_of c.run.rest.now (written c.run.out)
    (written c.args.out.now ++ flat_map spelling_of (run_of g.row.W c.args.octets.now).0) c.in_default.ensures.value c.run.invariant.whole
