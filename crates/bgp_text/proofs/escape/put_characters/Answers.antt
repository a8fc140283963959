use Rattle.bgp_text.proofs.Prelude.{sym, ◌∙◌, append_assoc, IsUtf8-past_char, chars_past_char}
use Rattle.std.proofs.Common.{append-nil}
use Rattle.bgp_text.proofs.Escapes.{no_characters}
use Rattle.bgp_text.proofs.escape.put_characters.Goals as goal

pub loop-c-preserved : goal.loop-c-preserved
loop-c-preserved c =
    let held = c.loop-c.invariant in
    let parts = c.in-Some.ensures.steps.0 in
    let step = chars_past_char _ _ c.in-Some.c held.0 parts in
    (IsUtf8-past_char _ _ c.in-Some.c held.0 parts, rw (c.in_ok-put_character.ensures, append_assoc) (rw step at held.1))

pub returns : goal.returns
returns c = sym (append-nil _) ∙ rw (no_characters _ c.in-None.ensures.steps.0.0) at c.loop-c.invariant.1
