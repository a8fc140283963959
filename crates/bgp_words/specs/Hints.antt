-- What input that isn't a stream of BGP messages looks like, by its first octets; and the position of a character in a text.
use Rattle.std.specs.Prelude.{ℕ, ◌+◌, ◌/◌, ◌==◌, ◌&&◌, ◌||◌, not, nat_le, Bool, true, false, List, [], ◌∷◌, Option, None, Some, is_some, if◌then◌else◌}
use Rattle.std.specs.Int.{w32, from_be_bytes}
use Rattle.bgp_open.specs.declared.context.Context.{Context}
use Rattle.bgp_open.specs.declared.peer.Peer.{Peer}
use Rattle.bgp_words.specs.declared.hint.Look.{Look}
use Rattle.bgp_words.specs.declared.hint.Spot.{Spot}
use Rattle.bgp_words.specs.declared.hint.Unsaid.{Unsaid}

-- the number in the first four octets, highest first; 0 if there are fewer
abbrev pub front_number : List ℕ → ℕ
front_number (a ∷ b ∷ c ∷ d ∷ octets) = from_be_bytes w32 (a ∷ b ∷ c ∷ d ∷ [])
front_number _ = 0

-- a packet capture of tcpdump (pcap), of either byte order, with times in microseconds or in nanoseconds: a1b2c3d4 and a1b23c4d
abbrev pub is_pcap : ℕ → Bool
is_pcap n = ((n == 2712847316 || n == 3569595041) || n == 2712812621) || n == 1295823521

-- the MRT types in archives: TABLE_DUMP, TABLE_DUMP_V2, BGP4MP and BGP4MP_ET (RFC 6396, section 4)
abbrev pub is_archived : ℕ → Bool
is_archived kind = ((kind == 12 || kind == 13) || kind == 16) || kind == 17

-- an MRT header (RFC 6396, section 2): a time, a type in archives, its subtype, and a length below 16 MiB
abbrev pub is_mrt : List ℕ → Bool
is_mrt (t ∷ u ∷ v ∷ w ∷ a ∷ kind ∷ b ∷ subtype ∷ c ∷ octets) =
    (((a == 0 && is_archived kind) && b == 0) && nat_le subtype 12) && c == 0
is_mrt _ = false

-- a BMP header (RFC 7854, section 4.1): version 3, a length below 64 KiB, and one of its seven types
abbrev pub is_bmp : List ℕ → Bool
is_bmp (version ∷ a ∷ b ∷ c ∷ d ∷ kind ∷ octets) = ((version == 3 && a == 0) && b == 0) && nat_le kind 6
is_bmp _ = false

-- a hexadecimal digit of either case
abbrev pub is_digit : ℕ → Bool
is_digit c = ((nat_le 48 c && nat_le c 57) || (nat_le 97 c && nat_le c 102)) || (nat_le 65 c && nat_le c 70)

-- a text begins with seven hexadecimal digits
abbrev pub has_seven_digits : List ℕ → Bool
has_seven_digits (a ∷ b ∷ c ∷ d ∷ e ∷ f ∷ g ∷ text) =
    (((((is_digit a && is_digit b) && is_digit c) && is_digit d) && is_digit e) && is_digit f) && is_digit g
has_seven_digits _ = false

-- the eighth character, and the ninth: 0 if there is none
abbrev pub eighth : List ℕ → ℕ
eighth (a ∷ b ∷ c ∷ d ∷ e ∷ f ∷ g ∷ h ∷ text) = h
eighth _ = 0

abbrev pub ninth : List ℕ → ℕ
ninth (a ∷ b ∷ c ∷ d ∷ e ∷ f ∷ g ∷ h ∷ i ∷ text) = i
ninth _ = 0

-- A line that begins with an offset: eight digits and a colon by xxd, eight digits and a space by hexdump -C, seven digits and a space by hexdump and od.
abbrev pub dump_of : List ℕ → Option Look
dump_of text =
    if not (has_seven_digits text) then None else (
    if eighth text == 32 then Some Look.Words else (
    if not (is_digit (eighth text)) then None else (
    if ninth text == 58 then Some Look.Xxd else (
    if ninth text == 32 then Some Look.HexdumpC else None))))

-- a space, a tab, a CR or a LF
abbrev pub is_space : ℕ → Bool
is_space c = ((c == 32 || c == 9) || c == 13) || c == 10

abbrev pub is_digit_or_space : ℕ → Bool
is_digit_or_space c = is_digit c || is_space c

-- a printable ASCII character, or a space
abbrev pub is_printed : ℕ → Bool
is_printed c = (nat_le 33 c && nat_le c 126) || is_space c

-- each character passes the test
unfoldable pub are_all : (ℕ → Bool) → List ℕ → Bool
are_all is [] = true
are_all is (c ∷ text) = is c && are_all is text

-- A text of digits and spaces only, or of printable characters.
abbrev pub text_of : List ℕ → Option Look
text_of text =
    if are_all is_digit_or_space text then Some Look.Digits else (
    if are_all is_printed text then Some Look.Text else None)

-- the first if there is one, else the second
abbrev pub either_of : Option Look → Option Look → Option Look
either_of (Some look) other = Some look
either_of None other = other

-- Files with a magic number, a stream of BMP, and text. No message begins so: all of its first sixteen octets are 255 (RFC 4271, section 4.1).
abbrev pub look_of : List ℕ → Option Look
look_of first =
    if is_pcap (front_number first) then Some Look.Pcap else (
    if front_number first == 168627466 then Some Look.PcapNg else (
    if front_number first / 256 == 2067208 then Some Look.Gzip else (
    if front_number first / 256 == 4348520 then Some Look.Bzip2 else (
    if is_mrt first then Some Look.Mrt else (
    if is_bmp first then Some Look.Bmp else
    either_of (dump_of first) (text_of first))))))

-- one more, up to the highest number of 64 bits
abbrev pub one_more : ℕ → ℕ
one_more n = if n == 18446744073709551615 then n else n + 1

-- the position after a character: its line and its column
abbrev pub next_spot : Spot → ℕ → Spot
next_spot at c = if c == 10 then record { line = one_more at.line; column = 1 } else record { line = at.line; column = one_more at.column }

-- the position after a text that begins at one
unfoldable pub spot_behind : Spot → List ℕ → Spot
spot_behind at [] = at
spot_behind at (c ∷ text) = spot_behind (next_spot at c) text

-- what a speaker offers that a context lacks
abbrev pub left_unsaid : Context → Peer → Unsaid
left_unsaid ctx peer = record {
  as4 = is_some peer.as4 && not ctx.as4;
  ip4 = peer.ip4 && not ctx.ip4;
  ip6 = peer.ip6 && not ctx.ip6;
}
