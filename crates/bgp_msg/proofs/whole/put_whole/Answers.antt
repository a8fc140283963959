use Rattle.std.proofs.Common.{ℕ, Bool, List, ◌≡◌, ◌++◌, length, sym, ap, ◌∙◌}
use Rattle.bgp_msg.specs.Prelude.{room_of, kind_of, body_of}
use Rattle.bgp_msg.proofs.Rooms.{headed, where_ok, refused, accepted}
use Rattle.bgp_msg.proofs.whole.put_whole.Goals as goal

pub returns-then-is_ok-clause-not_valid : goal.returns-then-is_ok-clause-not_valid
returns-then-is_ok-clause-not_valid g c why =
    let same = accepted c.put_body-written.result why tt (sym c.is_ok.ensures.value ∙ c.if-is_ok.true) in
    let told = c.put_body-written.ensures.not_valid why in
    ((λ e. told.0 (same.0 e)), (λ e. same.1 (told.1 e)))

pub returns-then-is_ok-clause-ok : goal.returns-then-is_ok-clause-ok
returns-then-is_ok-clause-ok g c =
    let old = c.args.out.now.items in
    let meant = g.B.Body.meant c.args.body.now in
    let room = room_of c.put_room-has_room.result in
    let body = body_of c.args.ctx.now meant in
    let mid = c.put_body-written.new.out.items in
    let wide = ap (λ (has : Bool). length (room_of has)) c.if-has_room.true in
    let written = where_ok c.put_body-written.result (mid ≡ c.put_room-has_room.new.out.items ++ body) (sym c.is_ok.ensures.value ∙ c.if-is_ok.true) c.put_body-written.ensures.ok in
    let whole = written ∙ ap (λ (l : List ℕ). l ++ body) c.put_room-has_room.ensures in
    headed old room body mid wide whole c.len-start.result (c.len-start.ensures ∙ c.args.out.now.ok.0) (kind_of meant) (c.body_kind.result) c.body_kind.ensures c.put_header.new.out.items c.put_header.ensures

pub returns-clause-not_valid : goal.returns-clause-not_valid
returns-clause-not_valid g c why =
    let same = refused c.put_body-written.result why in
    let told = c.put_body-written.ensures.not_valid why in
    rw c.give_up.ensures.fault ((λ e. told.0 (same.0 e)), (λ e. same.1 (told.1 e)))
