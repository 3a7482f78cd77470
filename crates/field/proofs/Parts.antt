-- A part of a list, read and written: its n elements from the a-th on. Assumes nothing.
use Rattle.std.proofs.Common.{◌≡◌, ℕ, ◌+◌, ◌-◌, ◌<◌, ◌≤◌, List, length, get_or, take, drop, sym, ap, ◌∙◌, arith, length-drop, length-take-le}
use native.Mathlib.Decide.{dec_lt}
use borrow.Rule.Slice.PartMut.{put_mid, same_len_mid}
use Rattle.field.specs.Laws.{Codes}
use Rattle.std.proofs.lemmas.List.{get_or-take, get_or-drop, get_or_append_left, get_or-append_right}

extent : (a n : ℕ) → a + n - a ≡ n
extent a n = omega arith

pub part_length : (xs : List ℕ) (a n : ℕ) → a + n ≤ length xs → length (take (a + n - a) (drop a xs)) ≡ n
part_length xs a n h =
    let room : a + n - a ≤ length (drop a xs) = simp length-drop (omega arith) in
    length-take-le (a + n - a) (drop a xs) room ∙ extent a n

pub part_at : (xs : List ℕ) (a n k : ℕ) → k < n → get_or (take (a + n - a) (drop a xs)) k 0 ≡ get_or xs (a + k) 0
part_at xs a n k h =
    let l : k < a + n - a = omega arith in
    get_or-take (a + n - a) (drop a xs) k 0 l ∙ get_or-drop a xs k 0

module _ (xs ys : List ℕ) (a n : ℕ) (h : a + n ≤ length xs) (l : length ys ≡ n) where
  front : length (take a xs) ≡ a
  front = length-take-le a xs (omega arith)

  pub put_length : length (put_mid a (a + n - a) xs ys) ≡ length xs
  put_length = same_len_mid a (a + n - a) xs ys (l ∙ sym (part_length xs a n h))

  pub put_before : (i : ℕ) → i < a → get_or (put_mid a (a + n - a) xs ys) i 0 ≡ get_or xs i 0
  put_before i b =
      let f = front in
      let k : i < length (take a xs) = omega arith in
      get_or_append_left (take a xs) _ 0 i k ∙ get_or-take a xs i 0 b

  pub put_inside : (i : ℕ) → a ≤ i → i < a + n → get_or (put_mid a (a + n - a) xs ys) i 0 ≡ get_or ys (i - a) 0
  put_inside i b e =
      let k : i - a < length ys = omega arith in
      get_or-append_right (take a xs) _ a i 0 front b ∙ get_or_append_left ys _ 0 (i - a) k

  pub put_behind : (i : ℕ) → a + n ≤ i → get_or (put_mid a (a + n - a) xs ys) i 0 ≡ get_or xs i 0
  put_behind i b =
      let k : n ≤ i - a = omega arith in
      let m : a + (a + n - a + (i - a - n)) ≡ i = omega arith in
      get_or-append_right (take a xs) _ a i 0 front (omega arith) ∙ get_or-append_right ys _ n (i - a) 0 l k
      ∙ get_or-drop (a + n - a) (drop a xs) (i - a - n) 0 ∙ get_or-drop a xs (a + n - a + (i - a - n)) 0 ∙ ap (λ (j : ℕ). get_or xs j 0) m

  -- codes again, where the list and the part are
  pub put_codes : (q : ℕ) → Codes q xs → Codes q ys → Codes q (put_mid a (a + n - a) xs ys)
  put_codes q cx cy i k =
      let s = put_length in
      elim (dec_lt i a) [
        | yes b ↦ rw (put_before i b) (cx i (omega arith))
        | no b ↦ elim (dec_lt i (a + n)) [
          | yes e ↦ rw (put_inside i (omega arith) e) (cy (i - a) (omega arith))
          | no e ↦ rw (put_behind i (omega arith)) (cx i (omega arith))
        ]
      ]
