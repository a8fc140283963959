use Rattle.std.proofs.lemmas.List.{append-nil}
use Rattle.bgp_text.proofs.Prelude.{sym, string_bytes, fields_left}
use Rattle.bgp_text.proofs.ToldFields.{nothing_left}
use Rattle.bgp_text.proofs.json_fields.put_unplaced.Goals as goal

pub returns-in-None : goal.returns-in-None
returns-in-None c =
    rw (nothing_left c.args.message.now c.args.noting (fields_left c.args.fields) c.in-None.is) (sym (append-nil (string_bytes c.args.text.now)))
