use Rattle.bgp_guard.proofs.Prelude.{◌+◌, List, ℕ, length, drop, ap, ◌∙◌, slice_range}
use Rattle.bgp_guard.proofs.Ranges.{written_behind}
use Rattle.bgp_guard.proofs.way.put_in.Goals as goal

pub returns-then-octets-room-clause-put : goal.returns-then-octets-room-clause-put
returns-then-octets-room-clause-put c =
    let n = length c.args.octets.now in
    ap (λ (xs : List ℕ). slice_range xs c.args.start (c.args.end + n)) c.overwrite.ensures
    ∙ written_behind c.args.start c.args.end c.args.room.now c.args.octets.now (drop (c.args.end + n) c.args.room.now) c.requires.order c.requires.within
