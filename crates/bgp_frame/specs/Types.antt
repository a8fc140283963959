-- The message types of a grammar, and the lengths of their messages (RFC 4271, section 4.1).
use Rattle.std.specs.Prelude.{◌≡◌, ℕ, ◌≤◌, ◌<◌, ◌^◌, Option, Some}

pub record Types (K : Type 0) : Type 0 where
  pub code_of : K → ℕ
  pub kind_of : ℕ → Option K
  pub least : K → ℕ
  pub most : K → ℕ
  -- the greatest length of any message
  pub limit : ℕ

-- a message of this kind may have n octets
pub record IsLengthIn {K : Type 0} (ty : Types K) (kind : K) (n : ℕ) : Type 0 where
  pub least : ty.least kind ≤ n
  pub most : n ≤ ty.most kind

-- a header says each type and length of a message, and no message is longer than the limit
pub record AreTypes {K : Type 0} (ty : Types K) : Type 0 where
  pub found : (k : K) (n : ℕ) → IsLengthIn ty k n → ty.kind_of (ty.code_of k) ≡ Some k
  pub only : (n : ℕ) (k : K) → ty.kind_of n ≡ Some k → n ≡ ty.code_of k
  pub long : (k : K) → 19 ≤ ty.least k
  pub short : (k : K) → ty.most k ≤ ty.limit
  pub room : 19 ≤ ty.limit
  pub small : ty.limit < 2 ^ 16
