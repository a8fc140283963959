-- The sections of the RFCs by which messages are judged.
use Rattle.std.specs.Prelude.{ℕ, List, [], ◌∷◌, codes}
use Rattle.bgp_fields.specs.declared.cause.Cause.{Cause}
use Rattle.bgp_text.specs.Below.{Why}
use Rattle.bgp_names.specs.Names.{named}

-- the section by which the value of an attribute type is judged
unfoldable pub value_section : ℕ → List ℕ
value_section kind = named (
    (1, codes "RFC 7606, section 7.1") ∷ (
    (2, codes "RFC 7606, section 7.2") ∷ (
    (3, codes "RFC 7606, section 7.3") ∷ (
    (4, codes "RFC 7606, section 7.4") ∷ (
    (5, codes "RFC 7606, section 7.5") ∷ (
    (6, codes "RFC 7606, section 7.6") ∷ (
    (7, codes "RFC 7606, section 7.7") ∷ (
    (8, codes "RFC 7606, section 7.8") ∷ (
    (17, codes "RFC 6793, section 6") ∷ (
    (18, codes "RFC 6793, section 6") ∷ (
    (32, codes "RFC 8092, section 6") ∷ []))))))))))) kind

-- the section by which a note is made: by its reason, else by the type of the attribute
unfoldable pub note_section : ℕ → Why → List ℕ
note_section kind Why.Flags = codes "RFC 7606, section 3, item c"
note_section kind Why.Missing = codes "RFC 7606, section 3, item d"
note_section kind Why.Repeated = codes "RFC 7606, section 3, item g"
note_section kind Why.Cut = codes "RFC 7606, section 4"
note_section kind Why.AsZero = codes "RFC 7607, section 2"
note_section kind Why.FourOctet = codes "RFC 6793, section 4.1"
note_section kind Why.Family = codes "RFC 4760, section 8"
note_section kind Why.Unneeded = codes "RFC 4760, section 3"
note_section kind _ = value_section kind

-- the section by which the session is reset, by the test that decided; two are rules of our own
unfoldable pub cause_section : Cause → List ℕ
cause_section Cause.Header = codes "RFC 4271, section 6.1"
cause_section Cause.Open = codes "RFC 4271, section 6.2"
cause_section Cause.Lengths = codes "RFC 4271, section 6.3"
cause_section Cause.Prefix = codes "RFC 4271, section 6.3"
cause_section Cause.WellKnown = codes "RFC 4271, section 6.3"
cause_section Cause.SecondRoutes = codes "RFC 7606, section 3, item g"
cause_section Cause.CutRoutes = codes "own rule"
cause_section Cause.RouteFlags = codes "own rule"
cause_section Cause.RouteLength = codes "RFC 7606, section 5.3"
cause_section Cause.NextHop = codes "RFC 7606, section 7.11"
cause_section Cause.RoutePrefix = codes "RFC 7606, section 5.3"
cause_section Cause.NothingAnnounced = codes "RFC 7606, section 5.2"
