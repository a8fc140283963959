-- The message types that two speakers agree on: those of RFC 4271, with ROUTE-REFRESH (RFC 2918) and messages above 4096 octets (RFC 8654) where both
-- offered them.
use Rattle.std.specs.Prelude.{ℕ, Bool, ◌==◌, Option, None, Some, option_map, if◌then◌else◌}
use Rattle.bgp_numbers.specs.declared.message.TheConstants.{ROUTE_REFRESH}
use Rattle.bgp_frame.specs.declared.kind.Kind.{Kind}
use Rattle.bgp_frame.specs.declared.kind.Kind.TheVariants.{Open, Update, Notification, Keepalive}
use Rattle.bgp_frame.specs.declared.kind.WideKind.{WideKind}
use Rattle.bgp_frame.specs.declared.kind.WideKind.TheVariants as wide
use Rattle.bgp_frame.specs.declared.grammar.WideGrammar.{WideGrammar}
use Rattle.bgp_frame.specs.Types.{Types}
use Rattle.bgp_frame.specs.Kind.{code_of, kind_of, least_length}

abbrev pub wide_code : WideKind → ℕ
wide_code (wide.Base kind) = code_of kind
wide_code wide.Refresh = ROUTE_REFRESH

abbrev pub wide_kind : Bool → ℕ → Option WideKind
wide_kind refresh n = if n == ROUTE_REFRESH then (if refresh then Some wide.Refresh else None) else option_map wide.Base (kind_of n)

-- the body of a ROUTE-REFRESH is judged by its subtype, after its header (RFC 7313, section 5)
abbrev pub wide_least : WideKind → ℕ
wide_least (wide.Base kind) = least_length kind
wide_least wide.Refresh = 19

-- OPEN and KEEPALIVE keep their limits (RFC 8654, section 4)
abbrev pub base_most : ℕ → Kind → ℕ
base_most limit Open = 4096
base_most limit Update = limit
base_most limit Notification = limit
base_most limit Keepalive = 19

-- no length of a ROUTE-REFRESH is allowed where nobody agreed on it
abbrev pub wide_most : Bool → ℕ → WideKind → ℕ
wide_most refresh limit (wide.Base kind) = base_most limit kind
wide_most refresh limit wide.Refresh = if refresh then limit else 0

abbrev pub limit_of : Bool → ℕ
limit_of long = if long then 65535 else 4096

abbrev pub wide_types : WideGrammar → Types WideKind
wide_types g = record {
  code_of = wide_code;
  kind_of = wide_kind g.refresh;
  least = wide_least;
  most = wide_most g.refresh (limit_of g.long);
  limit = limit_of g.long;
}
