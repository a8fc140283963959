-- Fields in a list, one after another.
use Rattle.bgp_fields.proofs.Prelude.{◌≡◌, ℕ, true, false, ◌==◌, ◌+◌, ◌<◌, ◌≤◌, List, [], ◌∷◌, ◌++◌, length, map, take, drop, set, refl, sym, ap, ap₂, ◌∙◌}
use Rattle.bgp_fields.proofs.Prelude.{arith, drop-set-lt, length-map, map-append, take-append-drop, take_more_set, nil_from_length, true≢false, eqb-true}
use Rattle.bgp_fields.proofs.Prelude.{append_assoc, length-append, length-set, Field, listed}

module _ (T : Type 0) where
  -- none is listed
  pub listed-none : (count : ℕ) (list : List T) → listed count [] list ≡ list
  listed-none count list = ap (λ (n : ℕ). take count list ++ drop n list) (omega arith) ∙ take-append-drop count list

  -- the first is set, and the others are listed after it
  pub listed-first : (count : ℕ) (x : T) (xs list : List T) → count < length list
      → listed count (x ∷ xs) list ≡ listed (count + 1) xs (set list count x)
  listed-first count x xs list some =
      let n = count + 1 + length xs in
      ap (λ (m : ℕ). take count list ++ (x ∷ xs ++ drop m list)) (omega arith)
      ∙ sym (append_assoc (take count list) (x ∷ []) (xs ++ drop n list))
      ∙ ap₂ (λ (front back : List T). front ++ (xs ++ back)) (sym (take_more_set list count x some)) (sym (drop-set-lt n list count x (omega arith)))

  pub listed-three : (count : ℕ) (x y z : T) (list : List T) → count + 3 ≤ length list
      → listed count (x ∷ y ∷ z ∷ []) list ≡ set (set (set list count x) (count + 1) y) (count + 2) z
  listed-three count x y z list room =
      let one = set list count x in
      let two = set one (count + 1) y in
      let long : length two ≡ length list = length-set one (count + 1) y ∙ length-set list count x in
      listed-first count x (y ∷ z ∷ []) list (omega (arith, room))
      ∙ listed-first (count + 1) y (z ∷ []) one (omega (arith, room, length-set list count x))
      ∙ ap (λ (n : ℕ). listed n (z ∷ []) two) (omega arith)
      ∙ listed-first (count + 2) z [] two (omega (arith, room, long))
      ∙ listed-none (count + 2 + 1) (set two (count + 2) z)

  -- some are listed, and others after them
  pub listed-then : (xs ys : List T) (count : ℕ) (list : List T) → count + length xs ≤ length list
      → listed count (xs ++ ys) list ≡ listed (count + length xs) ys (listed count xs list)
  listed-then [] ys count list room =
      ap₂ (λ (n : ℕ) (l : List T). listed n ys l) (omega arith) (sym (listed-none count list))
  listed-then (x ∷ xs) ys count list room =
      listed-first count x (xs ++ ys) list (omega (arith, room))
      ∙ listed-then xs ys (count + 1) (set list count x) (omega (arith, room, length-set list count x))
      ∙ ap₂ (λ (n : ℕ) (l : List T). listed n ys l) (omega arith) (sym (listed-first count x xs list (omega (arith, room))))

  pub length-listed : (xs : List T) (count : ℕ) (list : List T) → count + length xs ≤ length list → length (listed count xs list) ≡ length list
  length-listed [] count list room = ap length (listed-none count list)
  length-listed (x ∷ xs) count list room =
      ap length (listed-first count x xs list (omega (arith, room)))
      ∙ length-listed xs (count + 1) (set list count x) (omega (arith, room, length-set list count x))
      ∙ length-set list count x

  module _ (told : Field → T) where
    -- of all fields these are left, and the others are listed
    pub record IsListing (all left : List Field) (start count : ℕ) (places list : List T) : Type 0 where
      pub lists : listed count (map told left) list ≡ listed start (map told all) places
      pub counted : count + length left ≡ start + length all
      pub room : start + length all ≤ length list

    pub listing : (all : List Field) (start : ℕ) (places : List T) → start + length all ≤ length places → IsListing all all start start places places
    listing all start places room = record { lists = refl; counted = refl; room = room }

    -- there is an entry for the next
    pub place_left : (all left : List Field) (start count : ℕ) (places list : List T)
        → IsListing all left start count places list → 0 < length left → count < length list
    place_left all left start count places list so_far some = omega (arith, so_far.counted, so_far.room, some)

    -- one more is listed
    pub one_more : (all left later : List Field) (f : Field) (start count : ℕ) (places list : List T) (x : T)
        → IsListing all left start count places list → left ≡ f ∷ later → x ≡ told f
        → IsListing all later start (count + 1) places (set list count x)
    one_more all left later f start count places list x so_far is same =
        let some = place_left all left start count places list so_far (omega (arith, ap length is)) in
        record {
          lists =
              sym (listed-first count x (map told later) list some)
              ∙ ap (λ (y : T). listed count (y ∷ map told later) list) same
              ∙ ap (λ (fs : List Field). listed count (map told fs) list) (sym is)
              ∙ so_far.lists;
          counted = omega (arith, so_far.counted, ap length is);
          room = omega (arith, so_far.room, length-set list count x);
        }

    -- after one more there is room for those that follow it
    pub room_left : (all left inner later : List Field) (f : Field) (start count : ℕ) (places list : List T) (x : T)
        → IsListing all left start count places list → left ≡ f ∷ (inner ++ later) → count + 1 + length inner ≤ length (set list count x)
    room_left all left inner later f start count places list x so_far is =
        omega (arith, so_far.counted, so_far.room, ap length is, length-append inner later, length-set list count x)

    -- more are listed
    pub more : (all left later fs : List Field) (start count n : ℕ) (places list behind : List T)
        → IsListing all left start count places list → left ≡ fs ++ later → n ≡ count + length fs → behind ≡ listed count (map told fs) list
        → IsListing all later start n places behind
    more all left later fs start count n places list behind so_far is n_is behind_is =
        let len : length (map told fs) ≡ length fs = length-map fs told in
        let room : count + length (map told fs) ≤ length list = omega (arith, len, so_far.counted, so_far.room, ap length is, length-append fs later) in
        record {
          lists =
              ap₂ (λ (m : ℕ) (l : List T). listed m (map told later) l) (n_is ∙ ap (λ (m : ℕ). count + m) (sym len)) behind_is
              ∙ sym (listed-then (map told fs) (map told later) count list room)
              ∙ ap (λ (ys : List T). listed count ys list) (sym (map-append told fs later) ∙ ap (map told) (sym is))
              ∙ so_far.lists;
          counted = omega (arith, n_is, so_far.counted, ap length is, length-append fs later);
          room = omega (arith, so_far.room, ap length behind_is, length-listed (map told fs) count list room);
        }

    -- after more there is room for those that follow them
    pub room_behind : (all left fs inner later : List Field) (start count n : ℕ) (places list behind : List T)
        → IsListing all left start count places list → left ≡ fs ++ (inner ++ later) → n ≡ count + length fs → behind ≡ listed count (map told fs) list
        → n + length inner ≤ length behind
    room_behind all left fs inner later start count n places list behind so_far is n_is behind_is =
        let next = more all left (inner ++ later) fs start count n places list behind so_far is n_is behind_is in
        omega (arith, next.counted, next.room, length-append inner later)

    -- all are listed
    pub all_listed : (all left : List Field) (start count : ℕ) (places list : List T) → IsListing all left start count places list → left ≡ []
        → (list ≡ listed start (map told all) places) × (count ≡ start + length all)
    all_listed all left start count places list so_far none = (
      sym (listed-none count list)
          ∙ ap (λ (fs : List Field). listed count (map told fs) list) (sym none)
          ∙ so_far.lists,
      omega (arith, so_far.counted, ap length none),
    )

-- ---- whether something is left

pub some_left : (b : List ℕ) → (length b == 0) ≡ false → 0 < length b
some_left [] e = absurd (true≢false e)
some_left (x ∷ b) e = omega arith

pub none_left : (b : List ℕ) → (length b == 0) ≡ true → b ≡ []
none_left b e = nil_from_length b (eqb-true (length b) 0 e)
