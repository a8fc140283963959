use Rattle.std.proofs.Common.{ap, ap₂, refl, ◌∙◌, ◌+◌, arith}
use Rattle.bgp_frame.specs.Prelude.{wanted_in}
use Rattle.bgp_frame.proofs.FrameLemmas.{wanted-bounds}
use Rattle.bgp_frame.proofs.Feeding.{feeds, feeds_as, takes_some}
use Rattle.bgp_frame.proofs.framer_of.FramerOf.feed.Goals as goal

pub fill-requires : goal.fill-requires
fill-requires g c = let room = c.self.inside.room in let bounds = wanted-bounds (g.G.Grammar.types c.self.inside.grammar) (g.met.G.Grammar.fine c.self.inside.grammar) c.deref.result.now in omega (arith, c.wanted-len.ensures)

pub invariant_of-self : goal.invariant_of-self
invariant_of-self g c = (feeds (g.G.Grammar.types c.self.inside.grammar) (g.met.G.Grammar.fine c.self.inside.grammar) c.self.inside.buffer.items c.self.inside.buffer.items c.args.piece.now c.fill-first.new.buffer.items c.fill.new.buffer.items c.wanted-len.result c.fill-first.result c.fill.result refl c.self.invariant (λ i. omega (arith, c.type_inv.piece i)) c.fill-first.ensures.taken c.fill-first.ensures.filled (c.wanted-len.ensures ∙ ap (wanted_in (g.G.Grammar.types c.self.inside.grammar)) c.deref.ensures.0) c.fill.ensures.taken c.fill.ensures.filled).holds

pub returns-clause-takes : goal.returns-clause-takes
returns-clause-takes g c = (feeds_as g.G.Grammar.types g.met.G.Grammar.fine _ c.args.self.now c.args.piece.now c.fill.new.buffer.items (c.fill-first.result + c.fill.result) c.self.view_is (feeds (g.G.Grammar.types c.self.inside.grammar) (g.met.G.Grammar.fine c.self.inside.grammar) c.self.inside.buffer.items c.self.inside.buffer.items c.args.piece.now c.fill-first.new.buffer.items c.fill.new.buffer.items c.wanted-len.result c.fill-first.result c.fill.result refl c.self.invariant (λ i. omega (arith, c.type_inv.piece i)) c.fill-first.ensures.taken c.fill-first.ensures.filled (c.wanted-len.ensures ∙ ap (wanted_in (g.G.Grammar.types c.self.inside.grammar)) c.deref.ensures.0) c.fill.ensures.taken c.fill.ensures.filled)).takes

pub returns-clause-appends : goal.returns-clause-appends
returns-clause-appends g c = ap₂ (λ grammar octets. record { grammar = grammar; octets = octets }) (ap (λ v. v.grammar) c.self.view_is) (feeds_as g.G.Grammar.types g.met.G.Grammar.fine _ c.args.self.now c.args.piece.now c.fill.new.buffer.items (c.fill-first.result + c.fill.result) c.self.view_is (feeds (g.G.Grammar.types c.self.inside.grammar) (g.met.G.Grammar.fine c.self.inside.grammar) c.self.inside.buffer.items c.self.inside.buffer.items c.args.piece.now c.fill-first.new.buffer.items c.fill.new.buffer.items c.wanted-len.result c.fill-first.result c.fill.result refl c.self.invariant (λ i. omega (arith, c.type_inv.piece i)) c.fill-first.ensures.taken c.fill-first.ensures.filled (c.wanted-len.ensures ∙ ap (wanted_in (g.G.Grammar.types c.self.inside.grammar)) c.deref.ensures.0) c.fill.ensures.taken c.fill.ensures.filled)).appends

pub returns-clause-progress : goal.returns-clause-progress
returns-clause-progress g c = takes_some (g.G.Grammar.types c.args.self.now.grammar) (g.met.G.Grammar.fine c.args.self.now.grammar) c.args.self.now.octets c.args.piece.now _ (feeds_as g.G.Grammar.types g.met.G.Grammar.fine _ c.args.self.now c.args.piece.now c.fill.new.buffer.items (c.fill-first.result + c.fill.result) c.self.view_is (feeds (g.G.Grammar.types c.self.inside.grammar) (g.met.G.Grammar.fine c.self.inside.grammar) c.self.inside.buffer.items c.self.inside.buffer.items c.args.piece.now c.fill-first.new.buffer.items c.fill.new.buffer.items c.wanted-len.result c.fill-first.result c.fill.result refl c.self.invariant (λ i. omega (arith, c.type_inv.piece i)) c.fill-first.ensures.taken c.fill-first.ensures.filled (c.wanted-len.ensures ∙ ap (wanted_in (g.G.Grammar.types c.self.inside.grammar)) c.deref.ensures.0) c.fill.ensures.taken c.fill.ensures.filled)).takes

pub returns-clause-can_hold : goal.returns-clause-can_hold
returns-clause-can_hold g c = (feeds_as g.G.Grammar.types g.met.G.Grammar.fine _ c.args.self.now c.args.piece.now c.fill.new.buffer.items (c.fill-first.result + c.fill.result) c.self.view_is (feeds (g.G.Grammar.types c.self.inside.grammar) (g.met.G.Grammar.fine c.self.inside.grammar) c.self.inside.buffer.items c.self.inside.buffer.items c.args.piece.now c.fill-first.new.buffer.items c.fill.new.buffer.items c.wanted-len.result c.fill-first.result c.fill.result refl c.self.invariant (λ i. omega (arith, c.type_inv.piece i)) c.fill-first.ensures.taken c.fill-first.ensures.filled (c.wanted-len.ensures ∙ ap (wanted_in (g.G.Grammar.types c.self.inside.grammar)) c.deref.ensures.0) c.fill.ensures.taken c.fill.ensures.filled)).holds
