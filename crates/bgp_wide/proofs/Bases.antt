-- A message of a kind of RFC 4271 is one by its types, whatever else is read.
use Rattle.bgp_wire.proofs.Std.{◌≡◌, ℕ, ◌<◌, Bool, true, false, cond, not, List, length, Option, Some, None, option_map, Result, Ok, Err, refl, sym, ap, subst, ◌∙◌, eqb, ltb, ◌||◌}
use Rattle.bgp_numbers.specs.declared.message.TheConstants.{ROUTE_REFRESH}
use Rattle.bgp_frame.specs.declared.fault.HeadFault.{HeadFault}
use Rattle.bgp_frame.specs.declared.fault.HeadFault.TheVariants as fault
use Rattle.bgp_frame.specs.declared.kind.Kind.{Kind}
use Rattle.bgp_frame.specs.declared.kind.Kind.TheVariants.{Open, Update, Notification, Keepalive}
use Rattle.bgp_frame.specs.declared.kind.WideKind.{WideKind}
use Rattle.bgp_frame.specs.declared.kind.WideKind.TheVariants as wide
use Rattle.bgp_frame.specs.Prelude.{HeaderIn, IsFrame, IsFrameIn, IsLengthIn, Types, WaitsIn, has_marker, head_for_in, is_length_in, kind_of, length_field, plain, type_field, wanted_by, wide_kind, wide_types}
use Rattle.bgp_frame.specs.Prelude.{head_of_in, wanted_in}

module _ (offered : Bool) where
  abbrev types : Types WideKind
  types = wide_types (record { refresh = offered; long = false })

  pub allowed_in : (kind : Kind) (n : ℕ) → IsLengthIn types (wide.Base kind) n → IsLengthIn plain kind n
  allowed_in Open n h = record { least = h.least; most = h.most }
  allowed_in Update n h = record { least = h.least; most = h.most }
  allowed_in Notification n h = record { least = h.least; most = h.most }
  allowed_in Keepalive n h = record { least = h.least; most = h.most }

  -- a whole message of it is one
  pub base_frame : (kind : Kind) (body b : List ℕ) → IsFrameIn types (record { kind = wide.Base kind; body = body }) b → IsFrame (record { kind = kind; body = body }) b
  base_frame kind body b f = record { octets = f.octets; allowed = allowed_in kind (length b) f.allowed }

  -- ---- a header has the same fault, unless it is of type 5

  same_length : (kind : Kind) (n : ℕ) → is_length_in types (wide.Base kind) n ≡ is_length_in plain kind n
  same_length Open n = refl
  same_length Update n = refl
  same_length Notification n = refl
  same_length Keepalive n = refl

  -- a header without fault, of a kind of RFC 4271
  abbrev based : Result (HeaderIn Kind) HeadFault → Result (HeaderIn WideKind) HeadFault
  based (Ok h) = Ok (record { kind = wide.Base h.kind; len = h.len })
  based (Err f) = Err f

  by_length : (kind : Kind) (len : ℕ) (t : Bool) → is_length_in plain kind len ≡ t
      → cond (is_length_in types (wide.Base kind) len) (let h : Result (HeaderIn WideKind) HeadFault = Ok (record { kind = wide.Base kind; len = len }) in h) (Err (fault.Length len))
      ≡ based (cond (is_length_in plain kind len) (Ok (record { kind = kind; len = len })) (Err (fault.Length len)))
  by_length kind len true is = rw (same_length kind len, is) refl
  by_length kind len false is = rw (same_length kind len, is) refl

  by_kind : (o : Option Kind) (code len : ℕ) → head_for_in types (option_map wide.Base o) code len ≡ based (head_for_in plain o code len)
  by_kind None code len = refl
  by_kind (Some kind) code len = by_length kind len (is_length_in plain kind len) refl

  by_code : (code len : ℕ) → eqb code ROUTE_REFRESH ≡ false → head_for_in types (wide_kind offered code) code len ≡ based (head_for_in plain (kind_of code) code len)
  by_code code len other = rw other (by_kind (kind_of code) code len)

  by_tests : (marked out : Bool) (code len : ℕ) → eqb code ROUTE_REFRESH ≡ false
      → cond (not marked) (Err fault.Marker) (cond out (Err (fault.Length len)) (head_for_in types (wide_kind offered code) code len))
      ≡ based (cond (not marked) (Err fault.Marker) (cond out (Err (fault.Length len)) (head_for_in plain (kind_of code) code len)))
  by_tests false out code len other = refl
  by_tests true true code len other = refl
  by_tests true false code len other = by_code code len other

  same_head : (b : List ℕ) → eqb (type_field b) ROUTE_REFRESH ≡ false → head_of_in types b ≡ based (head_of_in plain b)
  unfolding head_of_in
  same_head b other = by_tests (has_marker b) (ltb (length_field b) 19 || ltb 4096 (length_field b)) (type_field b) (length_field b) other

  is_fault : (r : Result (HeaderIn Kind) HeadFault) (f : HeadFault) → based r ≡ Err f → r ≡ Err f
  is_fault (Ok h) f e = absurd cc
  is_fault (Err g) f e = let same : g ≡ f = cc in ap (λ (x : HeadFault). Err x) same

  pub same_fault : (b : List ℕ) (f : HeadFault) → eqb (type_field b) ROUTE_REFRESH ≡ false → head_of_in types b ≡ Err f → head_of_in plain b ≡ Err f
  same_fault b f other is = is_fault _ f (sym (same_head b other) ∙ is)

  same_wanted : (r : Result (HeaderIn Kind) HeadFault) → wanted_by (based r) ≡ wanted_by r
  same_wanted (Ok h) = refl
  same_wanted (Err f) = refl

  pub waits_plainly : (b : List ℕ) → eqb (type_field b) ROUTE_REFRESH ≡ false → WaitsIn types b → WaitsIn plain b
  unfolding wanted_in
  waits_plainly b other waits = by_size (ltb (length b) 19) waits
    where
      by_size : (t : Bool) → length b < cond t 19 (wanted_by (head_of_in types b)) → length b < cond t 19 (wanted_by (head_of_in plain b))
      by_size true w = w
      by_size false w = subst (λ (n : ℕ). length b < n) (ap wanted_by (same_head b other) ∙ same_wanted (head_of_in plain b)) w

-- what is allowed by types without long messages, for the calls that judge a message
pub allowed : (refresh : Bool) (kind : Kind) (n : ℕ) → IsLengthIn (wide_types (record { refresh = refresh; long = false })) (wide.Base kind) n → IsLengthIn plain kind n
allowed refresh kind n h = allowed_in refresh kind n h
