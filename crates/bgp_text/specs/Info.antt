-- The data of NOTIFICATIONs, and NOTIFICATIONs, as text.
use Rattle.std.specs.Prelude.{ℕ, List, [], ◌∷◌, ◌++◌, codes}
use Rattle.bgp_text.specs.Below.{decimal, Notification}
use Rattle.hex.specs.Hex.{encode_lower}

-- data as lower case hexadecimal text, or a dash where there is none
unfoldable pub info_text : List ℕ → List ℕ
info_text [] = codes "-"
info_text (octet ∷ octets) = encode_lower (octet ∷ octets)

-- a NOTIFICATION's code, subcode and data
unfoldable pub notification_text : Notification → List ℕ
notification_text n = decimal n.code ++ (codes "/" ++ (decimal n.subcode ++ (codes " " ++ info_text n.info.items)))
