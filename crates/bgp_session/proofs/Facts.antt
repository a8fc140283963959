-- Facts on the layers below that two ends need: how messages are written and read, and what both agree on.
use Rattle.bgp_session.proofs.Prelude.{◌≡◌, ℕ, ◌+◌, ◌≤◌, Bool, true, false, List, [], ◌∷◌, ◌++◌, length, Option, None, Some, Ok, refl, ap, ◌∙◌, arith}
use Rattle.bgp_session.proofs.Prelude.{ltb-false, Notification, Kind, Message, octets_of, IsFrame, IsLength, length-octets_of, Context, Settings, IsOpen}
use Rattle.bgp_session.proofs.Prelude.{reading_of, field_for, offered, own_of, why_unsent, told_with, told_in, told_octets, is_told_too_long, own_octets}
use Rattle.bgp_session.proofs.Prelude.{PathInfo, Update, onward_of, rebuilt_by, rebuilt, HasNoAs4, verdict_of, written_body, invalid_of, HasUpdateRanges}
use Rattle.bgp_session.proofs.Prelude.{Verdict, CanBeSet, heard, keepalive_octets, notification_octets}
use Rattle.bgp_msg.specs.declared.message.Message.TheVariants as message
use Rattle.bgp_numbers.specs.declared.afi.TheConstants.{IPV4, IPV6}
use Rattle.bgp_numbers.specs.declared.safi.TheConstants.{UNICAST}
use Rattle.bgp_msg.proofs.Itself.{valid-itself}
use Rattle.bgp_open.specs.declared.capability.Capability.TheVariants.{Multi, As4}
use Rattle.bgp_open.specs.Written as opens
use Rattle.bgp_open.proofs.Owns.{own-spells}
use Rattle.bgp_open.proofs.Readings.{spelling-reads}
use Rattle.bgp_machine.proofs.Sendings.{told_valid, told_narrow, told_narrow_valid}
use Rattle.bgp_attr.specs.declared.aggregator.Aggregator.{Aggregator}
use Rattle.bgp_attr.specs.declared.path.AsPath.{AsPath}
use Rattle.bgp_attr.specs.declared.path.As4Path.{As4Path}
use Rattle.bgp_update.proofs.Narrowing.{narrowed-rebuilt}
use Rattle.bgp_update.proofs.ReadBack.{valid-taken}
use Rattle.bgp_session.proofs.Narrowed.{narrowed_ranges}
use Rattle.bgp_session.proofs.Sayings.{Said, SaidOpen, SaidKeepalive, SaidNotification, SaidUpdate, open_body, notification_body, update_body, message_of, spelling, IsTold, Fits}
use Rattle.bgp_frame.specs.Kind.{plain}
use Rattle.bgp_frame.specs.steps.AreTypes.{plain-are}

-- ---- how it is written

pub open_spelled : (s : Settings) → own_octets s ≡ spelling s SaidOpen
unfolding own_octets open_body spelling
open_spelled s = refl

pub keepalive_spelled : (s : Settings) → keepalive_octets ≡ spelling s SaidKeepalive
unfolding spelling
keepalive_spelled s = refl

pub notification_spelled : (s : Settings) (why : Notification) → notification_octets why ≡ spelling s (SaidNotification why)
unfolding notification_body spelling
notification_spelled s why = refl

pub update_spelled : (s : Settings) (ctx : Context) (u : Update) → told_octets ctx u ≡ spelling s (SaidUpdate ctx u)
unfolding update_body spelling
update_spelled s ctx u = refl

-- ---- an OPEN

-- it is short, whatever is offered
own_length : (p q r : Bool) (n field hold : ℕ) (id : List ℕ) → length id ≡ 4
    → length (opens.body_octets field hold id (opens.row_octets (offered p (Multi IPV4 UNICAST) ++ (offered q (Multi IPV6 UNICAST) ++ offered r (As4 n))))) ≤ 30
own_length false false false n field hold (a ∷ b ∷ c ∷ d ∷ []) four = omega arith
own_length false false true n field hold (a ∷ b ∷ c ∷ d ∷ []) four = omega arith
own_length false true false n field hold (a ∷ b ∷ c ∷ d ∷ []) four = omega arith
own_length false true true n field hold (a ∷ b ∷ c ∷ d ∷ []) four = omega arith
own_length true false false n field hold (a ∷ b ∷ c ∷ d ∷ []) four = omega arith
own_length true false true n field hold (a ∷ b ∷ c ∷ d ∷ []) four = omega arith
own_length true true false n field hold (a ∷ b ∷ c ∷ d ∷ []) four = omega arith
own_length true true true n field hold (a ∷ b ∷ c ∷ d ∷ []) four = omega arith
own_length p q r n field hold [] four = absurd (omega arith)
own_length p q r n field hold (a ∷ []) four = absurd (omega arith)
own_length p q r n field hold (a ∷ b ∷ []) four = absurd (omega arith)
own_length p q r n field hold (a ∷ b ∷ c ∷ []) four = absurd (omega arith)
own_length p q r n field hold (a ∷ b ∷ c ∷ d ∷ e ∷ id) four = absurd (omega arith)

-- octets of a message are its frame, by the length of its body
frame_of : (m : Message) → IsLength m.kind (19 + length m.body) → IsFrame m (octets_of m)
frame_of m allowed = record {
  octets = refl;
  allowed = record { least = omega (arith, allowed.least, length-octets_of plain plain-are m); most = omega (arith, allowed.most, length-octets_of plain plain-are m) };
}

module _ (s : Settings) (can : CanBeSet s) where
  own_is_open : IsOpen (own_of s) (opens.canonical (own_of s))
  own_is_open = own-spells s can.allowed can.local_as can.hold can.id

  open_frame : IsFrame (message_of s SaidOpen) (spelling s SaidOpen)
  unfolding open_body spelling
  open_frame =
      let fixed = own_is_open.fixed in
      let most = own_length s.ip4 s.ip6 s.as4 s.local_as (field_for s.local_as) s.hold s.id can.id in
      frame_of (message_of s SaidOpen) (record { least = omega arith; most = omega arith })

  pub open_read : reading_of (open_body s) ≡ Ok (own_of s)
  unfolding open_body
  open_read = spelling-reads (opens.canonical (own_of s)) (own_of s) own_is_open

-- ---- an UPDATE

module _ (ctx : Context) (u : Update) (sendable : why_unsent ctx u ≡ None) (ranges : HasUpdateRanges u) where
  valid_by : (as4 : Bool) → ctx.as4 ≡ as4 → invalid_of ctx (told_with as4 u) ≡ None
  valid_by true is = told_valid ctx u sendable is
  valid_by false is = told_narrow_valid ctx u sendable is

  ranges_by : (as4 : Bool) → HasUpdateRanges (told_with as4 u)
  ranges_by true = ranges
  ranges_by false = narrowed_ranges u ranges

  none_rebuilt : (g : Option Aggregator) (path : Option AsPath) → rebuilt_by g None path None ≡ record { path = path; aggregator = g }
  none_rebuilt None None = refl
  none_rebuilt None (Some p) = refl
  none_rebuilt (Some g) None = refl
  none_rebuilt (Some g) (Some p) = refl

  wide_rebuilt : HasNoAs4 u.attrs → rebuilt u.attrs ≡ record { path = u.attrs.as_path; aggregator = u.attrs.aggregator }
  wide_rebuilt none =
      ap (λ (g : Option Aggregator). rebuilt_by u.attrs.aggregator g u.attrs.as_path u.attrs.as4_path) none.aggregator
      ∙ ap (λ (p : Option As4Path). rebuilt_by u.attrs.aggregator None u.attrs.as_path p) none.path
      ∙ none_rebuilt u.attrs.aggregator u.attrs.as_path

  rebuilt_is : (as4 : Bool) → rebuilt (told_with as4 u).attrs ≡ record { path = u.attrs.as_path; aggregator = u.attrs.aggregator }
  rebuilt_is true = wide_rebuilt (told_narrow ctx u sendable)
  rebuilt_is false = narrowed-rebuilt u.attrs (told_narrow ctx u sendable)

  pub told_heard : (as4 : Bool) → (let got : Update × PathInfo = (onward_of (told_with as4 u), rebuilt (told_with as4 u).attrs) in got ≡ heard as4 u)
  told_heard as4 = ap (λ (info : PathInfo). let got : Update × PathInfo = (onward_of (told_with as4 u), info) in got) (rebuilt_is as4)

module _ (wide : Bool) (s t : Settings) where
  within : (ctx : Context) (u : Update) → is_told_too_long ctx u ≡ false → length (told_octets ctx u) ≤ 4096
  within ctx u short = ltb-false 4096 (length (told_octets ctx u)) short

  update_frame : (ctx : Context) (u : Update) → IsTold wide s t ctx u → IsFrame (message_of s (SaidUpdate ctx u)) (spelling s (SaidUpdate ctx u))
  unfolding update_body spelling
  update_frame ctx u told =
      (valid-itself ctx (message.Update (told_in ctx u)) (ranges_by ctx u told.sendable told.ranges ctx.as4) (valid_by ctx u told.sendable told.ranges ctx.as4 refl)
      (within ctx u told.short)).whole

  pub update_read : (ctx : Context) (u : Update) → IsTold wide s t ctx u → verdict_of ctx (update_body ctx u) ≡ Verdict.Take (told_in ctx u) []
  unfolding update_body
  update_read ctx u told =
      let long = length-octets_of plain plain-are (record { kind = Kind.Update; body = written_body ctx (told_in ctx u) }) in
      let most = within ctx u told.short in
      valid-taken ctx (told_in ctx u) (ranges_by ctx u told.sendable told.ranges ctx.as4) (valid_by ctx u told.sendable told.ranges ctx.as4 refl) (omega arith)

  pub update_heard : (ctx : Context) (u : Update) → IsTold wide s t ctx u
      → (let got : Update × PathInfo = (onward_of (told_in ctx u), rebuilt (told_in ctx u).attrs) in got ≡ heard wide u)
  update_heard ctx u told = told_heard ctx u told.sendable told.ranges ctx.as4 ∙ ap (λ (w : Bool). heard w u) told.width

  -- ---- each message is a frame

  notification_frame : (why : Notification) → why.info.items ≡ [] → IsFrame (message_of s (SaidNotification why)) (spelling s (SaidNotification why))
  unfolding notification_body spelling
  notification_frame why short =
      let none : length why.info.items ≡ 0 = ap length short in
      frame_of (message_of s (SaidNotification why)) (record { least = omega arith; most = omega arith })

  keepalive_frame : IsFrame (message_of s SaidKeepalive) (spelling s SaidKeepalive)
  unfolding spelling
  keepalive_frame = frame_of (message_of s SaidKeepalive) (record { least = omega arith; most = omega arith })

  pub spelled_frame : CanBeSet s → (m : Said) → Fits wide s t m → IsFrame (message_of s m) (spelling s m)
  spelled_frame can SaidOpen fits = open_frame s can
  spelled_frame can SaidKeepalive fits = keepalive_frame
  spelled_frame can (SaidNotification why) fits = notification_frame why fits
  spelled_frame can (SaidUpdate ctx u) fits = update_frame ctx u fits
