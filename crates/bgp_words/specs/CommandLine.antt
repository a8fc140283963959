-- What the words of a command line request, in the terms of `clap`, which parses them.
use Rattle.std.specs.Prelude.{◌≡◌, ℕ, Bool, true, false, not, ◌&&◌, ◌||◌, List, [], ◌∷◌, codes, Option, None, Some, is_some, option_map, if◌then◌else◌}
use Rattle.std.specs.Str.{bytes_eq}
use Rattle.clap.specs.Words.{App, Kinds, Row, Rule, Text, fault_of, first_of, new_app, new_rule, subcommand_of, with_rule, with_subcommand}
use Rattle.clap.specs.declared.builder.action.ArgAction.TheVariants.{SetTrue}
use Rattle.clap.specs.declared.error.kind.ErrorKind.TheVariants as error
use Rattle.bgp_wire.specs.Prelude.{has_octet, none_of_them}
use Rattle.bgp_wire.specs.declared.octet_set.OctetSet.{OctetSet}
use Rattle.bgp_open.specs.declared.context.Context.{Context}
use Rattle.bgp_terms.specs.declared.refreshes.Refreshes.{Refreshes}
use Rattle.bgp_terms.specs.declared.refreshes.Refreshes.TheVariants as refreshes
use Rattle.bgp_words.specs.declared.path_list.PathFlags.{PathFlags}
use Rattle.bgp_words.specs.declared.request.FlagTerms.{FlagTerms}
use Rattle.bgp_words.specs.declared.request.Request.{Request}
use Rattle.bgp_words.specs.declared.request.Request.TheVariants.{Show, Explain, Check, Narrow, Clean, ToHex, FromHex, Loop}
use Rattle.bgp_words.specs.declared.request.Session.{Session}
use Rattle.bgp_words.specs.declared.request.Session.TheVariants.{Flags, Opens}
use Rattle.bgp_words.specs.PathList.{are_families, names_ip4, names_ip6}
use Rattle.bgp_words.specs.TypeList.{all_but, types_of}

-- ---- the command line: eight commands, seven of them with flags

abbrev pub flag_rule : Text → Rule
flag_rule name = record (new_rule name) { long = Some name; action = Some SetTrue }

abbrev pub with_flag : App → Text → App
with_flag a name = with_rule a (flag_rule name)

-- a flag with a value
abbrev pub option_rule : Text → Rule
option_rule name = record (new_rule name) { long = Some name; value_names = 1 }

abbrev pub with_option : App → Text → App
with_option a name = with_rule a (option_rule name)

-- the families in use, and whether a session is internal
abbrev pub with_families : App → App
with_families a = with_flag (with_flag (with_flag a (codes "ip4")) (codes "ip6")) (codes "internal")

-- whether the receiver offers ROUTE-REFRESH (RFC 2918)
abbrev pub with_refresh : App → App
with_refresh a = with_flag a (codes "refresh")

-- and whether both speakers offer to mark where a refresh begins and ends (RFC 7313)
abbrev pub with_refreshes : App → App
with_refreshes a = with_flag (with_refresh a) (codes "enhanced-refresh")

-- whose routes have path identifiers (RFC 7911)
abbrev pub with_paths : App → App
with_paths a = with_option a (codes "paths")

-- the file with the octets of the other direction
abbrev pub with_opens : App → App
with_opens a = with_option a (codes "opens")

-- the flags of a session, or that file
abbrev pub with_session : App → App
with_session a = with_opens (with_refreshes (with_families a))

-- the form of input, and AS numbers of four octets
abbrev pub with_input : App → App
with_input a = with_flag (with_flag a (codes "hex")) (codes "as4")

-- the flags of a command that judges messages
abbrev pub with_judging : App → App
with_judging a = with_session (with_input a)

-- the session of a command that reads path identifiers
abbrev pub with_path_session : App → App
with_path_session a = with_opens (with_paths (with_refreshes (with_families a)))

-- the flags of one that prints what they are
abbrev pub with_reading : App → App
with_reading a = with_path_session (with_input a)

-- the attributes that are left out: by type, or all unrecognised ones except those that pass
abbrev pub with_dropping : App → App
with_dropping a = with_option (with_flag (with_option a (codes "drop")) (codes "drop-unknown")) (codes "pass")

abbrev pub clean_command : App
clean_command = with_dropping (with_judging (new_app (codes "clean")))

-- the file of a script is required
abbrev pub file_rule : Rule
file_rule = record (new_rule (codes "SCRIPT")) { required = true }

abbrev pub loop_command : App
loop_command = with_flag (with_flag (with_rule (new_app (codes "loop")) file_rule) (codes "tcp")) (codes "trace")

abbrev pub with_command : App → App → App
with_command a sub = with_subcommand a sub.top

-- words begin after the program's name, one of them must be a command, and there is a version to print
abbrev pub with_settings : App → App
with_settings a = record a { top = record a.top { no_binary_name = true; subcommand_required = true; has_version = true } }

abbrev pub bare_command : App
bare_command = with_settings (new_app (codes "bgp"))

-- a command that prints messages can leave out those accepted without a note, other than NOTIFICATIONs; and can print JSON
abbrev pub with_printing : App → App
with_printing a = with_flag (with_flag a (codes "only-faults")) (codes "json")

abbrev pub show_command : App
show_command = with_printing (with_reading (new_app (codes "show")))

abbrev pub explain_command : App
explain_command = with_printing (with_reading (new_app (codes "explain")))

abbrev pub check_command : App
check_command = with_reading (new_app (codes "check"))

abbrev pub printing_commands : App
printing_commands = with_command (with_command bare_command show_command) explain_command

abbrev pub judging_commands : App
judging_commands = with_command printing_commands check_command

-- the commands that read a stream
abbrev pub rewriting_commands : App
rewriting_commands = with_command (with_command judging_commands (with_path_session (new_app (codes "narrow")))) clean_command

abbrev pub to_hex_command : App
to_hex_command = with_refresh (new_app (codes "to-hex"))

abbrev pub stream_commands : App
stream_commands = with_command (with_command rewriting_commands to_hex_command) (new_app (codes "from-hex"))

abbrev pub bgp_command : App
bgp_command = with_command stream_commands loop_command

-- ---- the request

-- a flag is set where its value is "true"
abbrev pub is_true : Option Text → Bool
is_true None = false
is_true (Some value) = bytes_eq value (codes "true")

abbrev pub is_set : Text → List Row → Bool
is_set name rows = is_true (first_of name rows)

-- the context of the flags, without a Hold Time
abbrev pub context_of : Bool → List Row → Context
context_of as4 rows = record { internal = is_set (codes "internal") rows; as4 = as4; ip4 = is_set (codes "ip4") rows; ip6 = is_set (codes "ip6") rows; hold = 0 }

-- the ROUTE-REFRESH that the receiver accepts by the flags: the second implies the first
abbrev pub refreshes_of : List Row → Refreshes
refreshes_of rows =
    if is_set (codes "enhanced-refresh") rows then refreshes.Enhanced else (
    if is_set (codes "refresh") rows then refreshes.Plain else
    refreshes.None)

-- the list, if there is one, passes a test
abbrev pub in_list : (Text → Bool) → Option Text → Bool
in_list test None = false
in_list test (Some list) = test list

-- the families whose routes have path identifiers by the flag: none without it
abbrev pub paths_of : List Row → PathFlags
paths_of rows = record { ip4 = in_list names_ip4 (first_of (codes "paths") rows); ip6 = in_list names_ip6 (first_of (codes "paths") rows) }

abbrev pub flag_terms_of : Bool → List Row → FlagTerms
flag_terms_of as4 rows = record { context = context_of as4 rows; refresh = refreshes_of rows; paths = paths_of rows }

-- the session of the flags, unless a file is given for it
abbrev pub session_by : Option Text → FlagTerms → Session
session_by None terms = Flags terms
session_by (Some file) terms = Opens

abbrev pub session_of : Bool → List Row → Session
session_of as4 rows = session_by (first_of (codes "opens") rows) (flag_terms_of as4 rows)

abbrev pub judged_in : List Row → Session
judged_in rows = session_of (is_set (codes "as4") rows) rows

-- the types in the list of a flag: none without the flag
abbrev pub types_in : Option Text → Option (ℕ → Bool)
types_in None = Some none_of_them
types_in (Some list) = types_of list

-- the types of unrecognised attributes that are left out; None if a list is faulty
abbrev pub drops_in : List Row → Option (ℕ → Bool)
drops_in rows =
    if is_set (codes "drop-unknown") rows then option_map all_but (types_in (first_of (codes "pass") rows)) else types_in (first_of (codes "drop") rows)

-- the request of a command with these flags, where a set has the types that are left out
abbrev pub request_by : Text → List Row → OctetSet → Request
request_by name rows drops =
    if bytes_eq name (codes "show") then Show (judged_in rows) (is_set (codes "hex") rows) (is_set (codes "json") rows) (is_set (codes "only-faults") rows) else (
    if bytes_eq name (codes "explain") then Explain (judged_in rows) (is_set (codes "hex") rows) (is_set (codes "json") rows) (is_set (codes "only-faults") rows) else (
    if bytes_eq name (codes "check") then Check (judged_in rows) (is_set (codes "hex") rows) else (
    if bytes_eq name (codes "narrow") then Narrow (session_of true rows) else (
    if bytes_eq name (codes "clean") then Clean (judged_in rows) (is_set (codes "hex") rows) drops else (
    if bytes_eq name (codes "to-hex") then ToHex (is_set (codes "refresh") rows) else (
    if bytes_eq name (codes "from-hex") then FromHex else
    Loop (is_set (codes "tcp") rows) (is_set (codes "trace") rows)))))))

-- the file, or an empty name
abbrev pub text_or_empty : Option Text → Text
text_or_empty None = []
text_or_empty (Some text) = text

-- the file of the other direction, or a script
abbrev pub first_file : Option Text → Option Text → Option Text
first_file None script = script
first_file (Some file) script = Some file

abbrev pub file_in : List Row → Text
file_in rows = text_or_empty (first_file (first_of (codes "opens") rows) (first_of (codes "SCRIPT") rows))

-- the request of a command with these flags, and its file
pub record IsAsked (name : Text) (rows : List Row) (asked : Option (Request × Text)) : Type 0 where
  pub drops : OctetSet
  pub left_out : drops_in rows ≡ Some (has_octet drops)
  pub is : asked ≡ Some (request_by name rows drops, file_in rows)

-- the types that a command line leaves out
abbrev pub drops_by : Option (Text × List Row) → Option (ℕ → Bool)
drops_by None = None
drops_by (Some p) = drops_in p.1

abbrev pub drops_of : List Text → Option (ℕ → Bool)
drops_of words = drops_by (subcommand_of bgp_command words)

-- the request of a command line, and its file, where a set has these types
abbrev pub request_of : List Text → OctetSet → Option (Request × Text)
request_of words drops = option_map (λ p. (request_by p.0 p.1 drops, file_in p.1)) (subcommand_of bgp_command words)

-- the request of a command line is this, with this file
pub record AsksFor (words : List Text) (request : Request) (file : Text) : Type 0 where
  pub drops : OctetSet
  pub left_out : drops_of words ≡ Some (has_octet drops)
  pub is : request_of words drops ≡ Some (request, file)

-- what a parse found is the request; if it fails without an error, it found something
abbrev pub Asks : List Text → Option (Request × Text) → Type 0
Asks words None = ⊥
Asks words (Some asked) = AsksFor words asked.0 asked.1

-- ---- the errors of a command line

-- one of the flags is set that both OPENs determine
abbrev pub has_session_flag : List Row → Bool
has_session_flag rows =
    is_set (codes "as4") rows || (is_set (codes "ip4") rows || (is_set (codes "ip6") rows || (is_set (codes "internal") rows
    || (is_set (codes "refresh") rows || (is_set (codes "enhanced-refresh") rows || is_some (first_of (codes "paths") rows))))))

-- the session is given by both OPENs, and by flags too
abbrev pub is_told_twice : List Row → Bool
is_told_twice rows = is_some (first_of (codes "opens") rows) && has_session_flag rows

-- attributes are left out by type, and all unrecognised ones are left out too
abbrev pub drops_twice : List Row → Bool
drops_twice rows = is_some (first_of (codes "drop") rows) && is_set (codes "drop-unknown") rows

-- types pass, but not all are left out
abbrev pub passes_alone : List Row → Bool
passes_alone rows = is_some (first_of (codes "pass") rows) && not (is_set (codes "drop-unknown") rows)

-- the list of families is faulty, if there is one
abbrev pub is_no_list : Option Text → Bool
is_no_list list = in_list (λ text. not (are_families text)) list

-- the errors of flags that `clap` doesn't find
abbrev pub kinds_in : List Row → Kinds
kinds_in rows =
    if is_told_twice rows then error.ArgumentConflict ∷ [] else (
    if is_no_list (first_of (codes "paths") rows) then error.InvalidValue ∷ [] else (
    if drops_twice rows then error.ArgumentConflict ∷ [] else (
    if passes_alone rows then error.MissingRequiredArgument ∷ [] else (
    if is_some (drops_in rows) then [] else error.InvalidValue ∷ []))))

abbrev pub kinds_of : Option (Text × List Row) → Kinds
kinds_of None = []
kinds_of (Some p) = kinds_in p.1

-- those of the parse come first
abbrev pub first_kinds : Kinds → Kinds → Kinds
first_kinds [] later = later
first_kinds (kind ∷ kinds) later = kind ∷ kinds

-- the errors of a command line, a request for help among them: none if the request can be carried out
abbrev pub faults_of : List Text → Kinds
faults_of words = first_kinds (fault_of bgp_command words) (kinds_of (subcommand_of bgp_command words))
