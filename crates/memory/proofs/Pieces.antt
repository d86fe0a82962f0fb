-- What is written over memory, byte by byte and piece after piece. Assumes nothing.
use Rattle.std.proofs.Common.{◌≡◌, ℕ, ◌+◌, ◌*◌, ◌<◌, ◌≤◌, List, [], ◌∷◌, ◌++◌, length, get_or, take, drop, set, sym, refl, ap, ◌∙◌, append_assoc, append-nil, add_assoc, mul-le-mul_left, mul-suc, arith, length-append, length-drop, length-take-le}
use borrow.Rule.Slice.PartMut.{put_mid}
use Rattle.std.proofs.lemmas.List.{take_at, drop_at, drop-drop, take-append-drop, take_more, take_more_set, take_all, take-set-le, drop-set, drop-set-lt, length_push}
use Rattle.std.proofs.lemmas.Grind.{flat_map-append}
use Rattle.std.specs.List.{flat_map}
use Rattle.memory.specs.Over.{over}

module _ (at : ℕ) (bs m : List ℕ) (p : ℕ) (e : at + length bs ≡ p) (fits : p ≤ length m) where
  front : length (take at m ++ bs) ≡ p
  front = length-append (take at m) bs ∙ ap (λ n. n + length bs) (length-take-le at m (omega arith)) ∙ e

  split : over at bs m ≡ (take at m ++ bs) ++ drop p m
  split = ap (λ n. take at m ++ (bs ++ drop n m)) e ∙ sym (append_assoc (take at m) bs (drop p m))

  pub take-over : take p (over at bs m) ≡ take at m ++ bs
  take-over = ap (take p) split ∙ take_at (take at m ++ bs) (drop p m) p front

  pub drop-over : drop p (over at bs m) ≡ drop p m
  drop-over = ap (drop p) split ∙ drop_at (take at m ++ bs) (drop p m) p front

  -- a piece more, right behind
  pub over_more : (cs : List ℕ) (w : ℕ) → length cs ≡ w → put_mid p w (over at bs m) cs ≡ over at (bs ++ cs) m
  over_more cs w f =
      ap (λ l. l ++ (cs ++ drop w (drop p (over at bs m)))) take-over
      ∙ ap (λ l. (take at m ++ bs) ++ (cs ++ drop w l)) drop-over
      ∙ ap (λ l. (take at m ++ bs) ++ (cs ++ l)) (drop-drop w p m)
      ∙ append_assoc (take at m) bs (cs ++ drop (p + w) m)
      ∙ ap (λ l. take at m ++ l) (sym (append_assoc bs cs (drop (p + w) m)))
      ∙ ap (λ n. take at m ++ ((bs ++ cs) ++ drop n m)) (sym (ap (λ n. at + n) (length-append bs cs) ∙ sym (add_assoc at (length bs) (length cs)) ∙ ap (λ n. n + length cs) e ∙ ap (λ n. p + n) f))

  -- the same, as a part of its own
  pub over-over : (cs : List ℕ) → over p cs (over at bs m) ≡ over at (bs ++ cs) m
  over-over cs =
      ap (λ l. take p (over at bs m) ++ (cs ++ l)) (sym (drop-drop (length cs) p (over at bs m))) ∙ over_more cs (length cs) refl

pub over_none : (at : ℕ) (m : List ℕ) → over at [] m ≡ m
over_none at m = ap (λ n. take at m ++ drop n m) (omega arith) ∙ take-append-drop at m

pub length_over : (at : ℕ) (bs m : List ℕ) → at + length bs ≤ length m → length (over at bs m) ≡ length m
length_over at bs m fits =
    length-append (take at m) (bs ++ drop (at + length bs) m)
    ∙ omega (arith, length-take-le at m (omega arith), length-append bs (drop (at + length bs) m), length-drop (at + length bs) m)

-- a byte before the rest
pub over_after : (at b : ℕ) (bs m : List ℕ) → at < length m → over (at + 1) bs (set m at b) ≡ over at (b ∷ bs) m
over_after at b bs m lt =
    let behind : drop (at + 1 + length bs) (set m at b) ≡ drop (at + length (b ∷ bs)) m = drop-set-lt (at + 1 + length bs) m at b (omega arith) ∙ ap (λ (n : ℕ). drop n m) (omega arith) in
    ap (λ (l : List ℕ). l ++ (bs ++ drop (at + 1 + length bs) (set m at b))) (take_more_set m at b lt)
    ∙ ap (λ (l : List ℕ). (take at m ++ (b ∷ [])) ++ (bs ++ l)) behind
    ∙ append_assoc (take at m) (b ∷ []) (bs ++ drop (at + length (b ∷ bs)) m)

-- a byte behind the rest
pub over_before : (at b : ℕ) (bs m : List ℕ) (p : ℕ) → at + length bs ≡ p → p < length m → over at bs (set m p b) ≡ over at (bs ++ (b ∷ [])) m
over_before at b bs m p e lt =
    let behind : drop (at + length bs) (set m p b) ≡ b ∷ drop (at + length (bs ++ (b ∷ []))) m =
    ap (λ (n : ℕ). drop n (set m p b)) e ∙ drop-set m p b lt ∙ ap (λ (n : ℕ). b ∷ drop n m) (omega (arith, length_push bs b)) in
    ap (λ (l : List ℕ). l ++ (bs ++ drop (at + length bs) (set m p b))) (take-set-le at m p b (omega arith))
    ∙ ap (λ (l : List ℕ). take at m ++ (bs ++ l)) behind
    ∙ ap (λ (l : List ℕ). take at m ++ l) (sym (append_assoc bs (b ∷ []) (drop (at + length (bs ++ (b ∷ []))) m)))

-- pieces of one width, each made from a value
module _ {X : Type 0} (f : X → List ℕ) where
  pub flat_map_push : (xs : List X) (k : ℕ) (d : X) → k < length xs → flat_map f (take (k + 1) xs) ≡ flat_map f (take k xs) ++ f (get_or xs k d)
  flat_map_push xs k d l = ap (flat_map f) (take_more xs k d l) ∙ flat_map-append f (take k xs) (get_or xs k d ∷ []) ∙ ap (λ r. flat_map f (take k xs) ++ r) (append-nil (f (get_or xs k d)))

  pub length-flat_map : (w : ℕ) → ((x : X) → length (f x) ≡ w) → (xs : List X) → length (flat_map f xs) ≡ w * length xs
  length-flat_map w h [] = omega arith
  length-flat_map w h (x ∷ xs) = length-append (f x) (flat_map f xs) ∙ omega (arith, h x, length-flat_map w h xs, mul-suc w (length xs))

  -- a turn of a loop that writes the pieces of xs, each of w bytes, from the byte `at` on
  pub pieces_more : (w : ℕ) → ((x : X) → length (f x) ≡ w) → (at : ℕ) (xs : List X) (m : List ℕ) (k : ℕ) (d : X) → k < length xs → at + w * length xs ≤ length m → (l : List ℕ) → l ≡ over at (flat_map f (take k xs)) m → (n : ℕ) → n ≡ w → (cs : List ℕ) → cs ≡ f (get_or xs k d) → put_mid (at + w * k) n l cs ≡ over at (flat_map f (take (k + 1) xs)) m
  pieces_more w h at xs m k d lt fits l e n same cs is =
      let long : length (flat_map f (take k xs)) ≡ w * k = length-flat_map w h (take k xs) ∙ ap (λ i. w * i) (length-take-le k xs (omega arith)) in
      let room : w * k ≤ w * length xs = mul-le-mul_left w (omega arith) in
      (λ i. put_mid (at + w * k) n (e i) (is i))
      ∙ over_more at (flat_map f (take k xs)) m (at + w * k) (ap (λ i. at + i) long) (omega arith) (f (get_or xs k d)) n (h (get_or xs k d) ∙ sym same)
      ∙ ap (λ bs. over at bs m) (sym (flat_map_push xs k d lt))

  pub pieces_all : (at : ℕ) (xs : List X) (m : List ℕ) (k : ℕ) → length xs ≤ k → over at (flat_map f (take k xs)) m ≡ over at (flat_map f xs) m
  pieces_all at xs m k l = ap (λ ys. over at (flat_map f ys) m) (take_all k xs l)
