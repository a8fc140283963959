-- Digits written before a short text.
use Rattle.bgp_text.proofs.Prelude.{◌≡◌, ℕ, false, ◌^◌, ◌/◌, ◌%◌, ◌<◌, ◌≤◌, List, ◌∷◌, ◌++◌, length, arith, subst, sym, ap, ◌∙◌, append_assoc, decimal}
use Rattle.bgp_text.proofs.Prelude.{digit_glyph, IsAscii, hex_octet, ipv4_address_text, ipv6_address_text, groups_text, length-decimal-le, IsAscii-decimal}
use Rattle.bgp_text.proofs.Prelude.{IsAscii-append}
use Rattle.std.specs.Prelude.{slice_index}
use Rattle.std.proofs.lemmas.Bool.Decides.{nat_tests}
use Rattle.std.proofs.lemmas.Str.Ascii.{IsAscii-cons}

-- the greatest number of digits of a number of this width
pub digits_of_8 : (n : ℕ) → n < 2 ^ 8 → length (decimal n) ≤ 3
digits_of_8 n small = length-decimal-le 3 n (omega arith) (omega arith) (omega arith)

pub digits_of_16 : (n : ℕ) → n < 2 ^ 16 → length (decimal n) ≤ 5
digits_of_16 n small = length-decimal-le 5 n (omega arith) (omega arith) (omega arith)

pub digits_of_32 : (n : ℕ) → n < 2 ^ 32 → length (decimal n) ≤ 10
digits_of_32 n small = length-decimal-le 10 n (omega arith) (omega arith) (omega arith)

pub digits_of_64 : (n : ℕ) → n < 2 ^ 64 → length (decimal n) ≤ 20
digits_of_64 n small = length-decimal-le 20 n (omega arith) (omega arith) small

pub number_ascii : (n : ℕ) (later text : List ℕ) → n < 2 ^ 64 → IsAscii later → text ≡ decimal n ++ later → IsAscii text
number_ascii n later text small ascii is = subst IsAscii (sym is) (IsAscii-append (decimal n) later (IsAscii-decimal n small) ascii)

pub marked_ascii : (mark n : ℕ) (later text : List ℕ) → mark < 128 → n < 2 ^ 64 → IsAscii later → text ≡ mark ∷ (decimal n ++ later) → IsAscii text
marked_ascii mark n later text is_mark small ascii is =
    subst IsAscii (sym is) (IsAscii-cons mark (decimal n ++ later) is_mark (IsAscii-append (decimal n) later (IsAscii-decimal n small) ascii))

glyph_small : (d : ℕ) → d < 16 → digit_glyph false d < 128
glyph_small d small = grind (arith, nat_tests)

octet_ascii : (octet : ℕ) (later : List ℕ) → octet < 256 → IsAscii later → IsAscii (hex_octet octet ++ later)
octet_ascii octet later fits ascii =
    IsAscii-cons (digit_glyph false (octet / 16)) (digit_glyph false (octet % 16) ∷ later) (glyph_small (octet / 16) (omega (arith, fits)))
    (IsAscii-cons (digit_glyph false (octet % 16)) later (glyph_small (octet % 16) (omega arith)) ascii)

pub hex_ascii : (high low : ℕ) (later text : List ℕ) → high < 256 → low < 256 → IsAscii later → text ≡ hex_octet high ++ (hex_octet low ++ later) → IsAscii text
hex_ascii high low later text high_fits low_fits ascii is =
    subst IsAscii (sym is) (octet_ascii high (hex_octet low ++ later) high_fits (octet_ascii low later low_fits ascii))

-- text before a word that begins with this
pub in_front : (text front later word : List ℕ) → word ≡ front ++ later → text ++ word ≡ (text ++ front) ++ later
in_front text front later word is = ap (λ (w : List ℕ). text ++ w) is ∙ sym (append_assoc text front later)

-- four texts with a mark between them, written before a word from the last to the first
pub four_in_front : (a b c d later one one_mark two two_marks three three_marks four : List ℕ) (mark : ℕ)
    → one ≡ d ++ later → one_mark ≡ mark ∷ one → two ≡ c ++ one_mark → two_marks ≡ mark ∷ two
    → three ≡ b ++ two_marks → three_marks ≡ mark ∷ three → four ≡ a ++ three_marks
    → four ≡ (a ++ (mark ∷ (b ++ (mark ∷ (c ++ (mark ∷ d)))))) ++ later
four_in_front a b c d later one one_mark two two_marks three three_marks four mark is_one is_mark is_two is_marks is_three is_three_marks is_four =
    let marked : List ℕ → List ℕ = λ (w : List ℕ). mark ∷ w in
    is_four ∙ in_front a _ later three_marks
    (is_three_marks ∙ ap marked (is_three ∙ in_front b _ later two_marks
    (is_marks ∙ ap marked (is_two ∙ in_front c _ later one_mark (is_mark ∙ ap marked is_one)))))

-- an IPv4 address, number by number
pub address_in_front : (address later one one_dot two two_dots three three_dots four : List ℕ)
    → one ≡ decimal (slice_index address 3) ++ later → one_dot ≡ 46 ∷ one
    → two ≡ decimal (slice_index address 2) ++ one_dot → two_dots ≡ 46 ∷ two
    → three ≡ decimal (slice_index address 1) ++ two_dots → three_dots ≡ 46 ∷ three
    → four ≡ decimal (slice_index address 0) ++ three_dots
    → four ≡ ipv4_address_text address ++ later
unfolding ipv4_address_text
address_in_front address later one one_dot two two_dots three three_dots four =
    four_in_front (decimal (slice_index address 0)) (decimal (slice_index address 1)) (decimal (slice_index address 2)) (decimal (slice_index address 3))
    later one one_dot two two_dots three three_dots four 46

-- an IPv6 address, half by half
pub halves_in_front : (address later last last_colon first : List ℕ)
    → last ≡ groups_text address 4 ++ later → last_colon ≡ 58 ∷ last → first ≡ groups_text address 0 ++ last_colon
    → first ≡ ipv6_address_text address ++ later
unfolding ipv6_address_text
halves_in_front address later last last_colon first is_last is_colon is_first =
    is_first ∙ in_front (groups_text address 0) (58 ∷ groups_text address 4) later last_colon (is_colon ∙ ap (λ (w : List ℕ). 58 ∷ w) is_last)
