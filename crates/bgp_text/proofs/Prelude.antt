-- Re-exports the names of std, of the crates below and of this crate that its proofs cite. Declares nothing.
pub use Rattle.bgp_fields.proofs.Prelude.{PrefixValue, run_of, PlacedTlv, TlvValue, judgement, tlvs_of, Mark, Parts, bad_network, carries_routes, cut_mark, first_reset, is_reachable, is_withdrawn, malformed, marks_behind, marks_of, notes_of, of_parts, parts_of, repeated, reset_by, reset_of, reset_of_run, routes_of, unless_reset, update_of, verdict_of, Note, fields_left}
unfoldable pub use Rattle.bgp_fields.proofs.Prelude.{field_marks}
pub use Rattle.bgp_wire.proofs.Std.{Bool, IsUtf8, List, None, OnOk, Option, Some, T, [], ap, append_assoc, arith, chars, codes, drop, drop-append-le, drop-drop, drop-set, eq-zero-or-pos, eqb, eqb→eq, false, flat_map, flat_map-append, flat_map-map, get_or, if◌then◌else◌, inl, inr, length, length-append, length-drop, length-set, map, nat_lt, option_or, refl, set, string_bytes, subst, suc, sym, take, take_all, true, zero, ℕ, ◌%◌, ◌&&◌, ◌*◌, ◌++◌, ◌+◌, ◌-◌, ◌/◌, ◌<◌, ◌==◌, ◌^◌, ◌∙◌, ◌∷◌, ◌≡◌, ◌≤◌}
pub use Rattle.std.proofs.lemmas.Fmt.{IsAscii-decimal, decimal_digit, decimal_step, length-decimal-le}
pub use Rattle.std.proofs.lemmas.Str.{IsAscii-append, IsUtf8-from_ascii, IsUtf8-from_is_utf8, IsUtf8-past_char, chars-nil, chars_past_char, is_utf8-from_IsUtf8}
pub use Rattle.std.specs.Fmt.{decimal, digit_glyph}
pub use Rattle.std.specs.Str.{IsAscii, is_utf8}
pub use Rattle.bgp_prefix.specs.Prelude.{groups_text, hex_octet, prefixes_left}
unfoldable pub use Rattle.bgp_prefix.specs.Prelude.{ipv4_address_text, ipv6_address_text}
pub use Rattle.bgp_attr.specs.Prelude.{opaque_value, segments_left}
pub use Rattle.bgp_update.specs.Prelude.{cut_kind, known_of, known_value, notes_left, notes_value, placed_tlvs, update_value, without_reset}
unfoldable pub use Rattle.bgp_update.specs.Prelude.{slot}
pub use Rattle.bgp_text.specs.FieldLines.{faulty_line, field_line, note_reason, noted_line, reason_line, unplaced_line}
pub use Rattle.bgp_text.specs.NoteRow.{row_left}
pub use Rattle.bgp_text.specs.Reasons.{is_at, is_in, is_of, note_place}
unfoldable pub use Rattle.bgp_text.specs.FieldLines.{noted_lines}
pub use Rattle.bgp_text.specs.Json.{behind_comma, listed, named}
unfoldable pub use Rattle.bgp_text.specs.Json.{joined}
pub use Rattle.bgp_text.specs.JsonOpen.{capability_json}
pub use Rattle.bgp_text.specs.JsonFields.{noted_field, passed_field, unplaced_json, without_space}
unfoldable pub use Rattle.bgp_text.specs.JsonFields.{noted_fields, unplaced_notes}
pub use Rattle.bgp_text.specs.Members.{Shown, printed, printed_types}
unfoldable pub use Rattle.bgp_text.specs.Members.{printed_attributes}
pub use Rattle.bgp_text.specs.steps.Rows.{is_next, note_at, noting_fields, noting_left, noting_lines, plain_field, plain_line, row_of}
