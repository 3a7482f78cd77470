-- Sums of multiples of rows, by the digits of the factors from the highest down. Assumes nothing.
use Rattle.std.proofs.Common.{◌≡◌, ℕ, zero, suc, ◌+◌, ◌*◌, ◌/◌, ◌%◌, ◌^◌, ◌<◌, ◌≤◌, ◌≢◌, List, length, get_or, set, sym, refl, ap, ◌∙◌, subst, ap₂, mod-lt, suc-mul, div-add-mod', div-one, add-one, arith, get_or-set_other, get_or-set_same, shr-shr}
use native.Mathlib.Nat.{div-eq_of_lt, zero-div}
use native.Mathlib.Decide.{ℕ_discrete, dec_lt}
use lib.Arith.{digits_lt, digits_div, digits_mod}
use lib.Pow.{shr_le}
use Rattle.field.specs.Laws.{Ops, FieldLaws, Codes}
use Rattle.field.specs.Rows.{combination}
use Rattle.field.specs.Sums.{sum}
use Rattle.field.specs.Digits.{Digits, gained, gained_all}
use Rattle.field.proofs.Digits.{gained_is, zero-mul, mul-zero}

-- out has gained the places of the rows before the r-th whose digit is 1
pub record GatheredTo (K : Ops) (d : ℕ → ℕ) (rows : List ℕ) (r : ℕ) (start out : List ℕ) : Type 0 where
  pub at : (k : ℕ) → k < length start → get_or out k 0 ≡ gained_all K r d (λ j. get_or rows (j * length start + k) 0) (get_or start k 0)

pub gathered_start : (K : Ops) (d : ℕ → ℕ) (rows start : List ℕ) → GatheredTo K d rows 0 start start
unfolding gained_all
gathered_start K d rows start = record { at = λ k l. refl }

module _ (K : Ops) (d : ℕ → ℕ) (rows start out : List ℕ) (r : ℕ) (g : GatheredTo K d rows r start out) where
  pub gathered_set : (after : List ℕ) → d r ≡ 1
      → ((k : ℕ) → k < length start → get_or after k 0 ≡ K.add (get_or out k 0) (get_or rows (r * length start + k) 0))
      → GatheredTo K d rows (r + 1) start after
  unfolding gained_all
  gathered_set after one v = record {
    at = λ k l. rw (add-one r)
        (v k l ∙ ap (λ (a : ℕ). K.add a (get_or rows (r * length start + k) 0)) (g.at k l)
        ∙ sym (ap (λ (x : ℕ). gained K x (gained_all K r d (λ j. get_or rows (j * length start + k) 0) (get_or start k 0)) (get_or rows (r * length start + k) 0)) one));
  }

  pub gathered_clear : d r ≡ 0 → GatheredTo K d rows (r + 1) start out
  unfolding gained_all
  gathered_clear none = record {
    at = λ k l. rw (add-one r)
        (g.at k l
        ∙ sym (ap (λ (x : ℕ). gained K x (gained_all K r d (λ j. get_or rows (j * length start + k) 0) (get_or start k 0)) (get_or rows (r * length start + k) 0)) none));
  }

module _ {K : Ops} (L : FieldLaws K) where
  zero_below : 0 < K.order
  zero_below = omega (arith, L.one_below)

  terms_below : (n : ℕ) (f x : ℕ → ℕ) → ((j : ℕ) → j < n → f j < K.order) → ((j : ℕ) → j < n → x j < K.order)
      → sum 0 K.add n (λ j. K.mul (f j) (x j)) < K.order
  unfolding sum
  terms_below zero f x wf wx = zero_below
  terms_below (suc n) f x wf wx =
      L.add_below _ _ (terms_below n f x (λ j l. wf j (omega arith)) (λ j l. wx j (omega arith))) (L.mul_below _ _ (wf n (omega arith)) (wx n (omega arith)))

  pub mix_below : (n : ℕ) (f x : ℕ → ℕ) → ((j : ℕ) → j < n → f j < K.order) → ((j : ℕ) → j < n → x j < K.order)
      → sum 0 K.add n (λ j. K.mul (f j) (x j)) < K.order
  mix_below = terms_below

  -- zero factors
  pub mix_none : (n : ℕ) (f x : ℕ → ℕ) → ((j : ℕ) → j < n → f j ≡ 0) → ((j : ℕ) → j < n → x j < K.order)
      → sum 0 K.add n (λ j. K.mul (f j) (x j)) ≡ 0
  unfolding sum
  mix_none zero f x wf wx = refl
  mix_none (suc n) f x wf wx =
      ap₂ K.add (mix_none n f x (λ j l. wf j (omega arith)) (λ j l. wx j (omega arith)))
      (ap (λ (a : ℕ). K.mul a (x n)) (wf n (omega arith)) ∙ zero-mul L (x n) (wx n (omega arith)))
      ∙ L.add-zero 0 zero_below

  -- a and the digits' share of x is what gaining gives
  pub gained_all_sum : (n : ℕ) (d x : ℕ → ℕ) (a : ℕ) → ((j : ℕ) → j < n → d j < 2) → ((j : ℕ) → j < n → x j < K.order) → a < K.order
      → gained_all K n d x a ≡ K.add a (sum 0 K.add n (λ j. K.mul (d j) (x j)))
  unfolding gained_all sum
  gained_all_sum zero d x a wd wx wa = sym (L.add-zero a wa)
  gained_all_sum (suc n) d x a wd wx wa =
      let dn = wd n (omega arith) in
      let xn = wx n (omega arith) in
      let wq : (j : ℕ) → j < n → d j < K.order = λ j l. let h = wd j (omega arith) in omega (arith, L.one_below) in
      let dq : d n < K.order = omega (arith, L.one_below) in
      let wxs : (j : ℕ) → j < n → x j < K.order = λ j l. wx j (omega arith) in
      let part = terms_below n d x wq wxs in
      ap (λ (b : ℕ). gained K (d n) b (x n)) (gained_all_sum n d x a (λ j l. wd j (omega arith)) wxs wa)
      ∙ gained_is L (d n) _ (x n) dn (L.add_below a _ wa part) xn
      ∙ L.add_assoc a _ _ wa part (L.mul_below (d n) (x n) dq xn)

  -- (2 a + b) + (d + 2 h) x = 2 (a + h x) + (b + d x)
  regroup : (a b u v : ℕ) → 2 < K.order → a < K.order → b < K.order → u < K.order → v < K.order
      → K.add (K.add (K.mul 2 a) b) (K.add u (K.mul 2 v)) ≡ K.add (K.mul 2 (K.add a v)) (K.add b u)
  regroup a b u v l2 la lb lu lv =
      let p = L.mul_below 2 a l2 la in
      let q = L.mul_below 2 v l2 lv in
      L.add_assoc (K.mul 2 a) b _ p lb (L.add_below u _ lu q)
      ∙ ap (K.add (K.mul 2 a)) (sym (L.add_assoc b u (K.mul 2 v) lb lu q) ∙ L.add_comm (K.add b u) (K.mul 2 v) (L.add_below b u lb lu) q)
      ∙ sym (L.add_assoc (K.mul 2 a) (K.mul 2 v) (K.add b u) p q (L.add_below b u lb lu))
      ∙ ap (λ (z : ℕ). K.add z (K.add b u)) (sym (L.mul-add 2 a v l2 la lv))

  -- one digit more of every factor
  pub mix_double : Digits K → (n : ℕ) (f x : ℕ → ℕ) → ((j : ℕ) → j < n → f j < K.order) → ((j : ℕ) → j < n → x j < K.order)
      → sum 0 K.add n (λ j. K.mul (f j) (x j))
      ≡ K.add (K.mul 2 (sum 0 K.add n (λ j. K.mul (f j / 2) (x j)))) (sum 0 K.add n (λ j. K.mul (f j % 2) (x j)))
  unfolding sum
  mix_double D zero f x wf wx = sym (ap (λ (z : ℕ). K.add z 0) (mul-zero L 2 D.two_below) ∙ L.add-zero 0 zero_below)
  mix_double D (suc n) f x wf wx =
      let fn = wf n (omega arith) in
      let xn = wx n (omega arith) in
      let l2 = D.two_below in
      let half : f n / 2 < K.order = omega arith in
      let bit : f n % 2 < K.order = omega (arith, L.one_below) in
      let wxs : (j : ℕ) → j < n → x j < K.order = λ j l. wx j (omega arith) in
      let halves : (j : ℕ) → j < n → f j / 2 < K.order = λ j l. let h = wf j (omega arith) in omega arith in
      let bits : (j : ℕ) → j < n → f j % 2 < K.order = λ j l. omega (arith, L.one_below) in
      let split : K.mul (f n) (x n) ≡ K.add (K.mul (f n % 2) (x n)) (K.mul 2 (K.mul (f n / 2) (x n)))
      = ap (λ (z : ℕ). K.mul z (x n)) (sym (D.binary (f n) fn)) ∙ parted (f n % 2) (f n / 2) (x n) l2 bit half xn in
      ap₂ K.add (mix_double D n f x (λ j l. wf j (omega arith)) wxs) split
      ∙ regroup _ _ _ _ l2 (terms_below n (λ j. f j / 2) x halves wxs) (terms_below n (λ j. f j % 2) x bits wxs)
      (L.mul_below _ _ bit xn) (L.mul_below _ _ half xn)
    where
      -- (d + 2 h) x = d x + 2 (h x)
      parted : (d h y : ℕ) → 2 < K.order → d < K.order → h < K.order → y < K.order
          → K.mul (K.add d (K.mul 2 h)) y ≡ K.add (K.mul d y) (K.mul 2 (K.mul h y))
      parted d h y l2 ld lh ly =
          let w = L.mul_below 2 h l2 lh in
          L.mul_comm _ y (L.add_below d _ ld w) ly ∙ L.mul-add y d (K.mul 2 h) ly ld w
          ∙ ap₂ K.add (L.mul_comm y d ly ld) (L.mul_comm y (K.mul 2 h) ly w ∙ L.mul_assoc 2 h y l2 lh ly)

-- a sum of multiples by its factors
pub mix_same : (K : Ops) (n : ℕ) (f g x : ℕ → ℕ) → ((j : ℕ) → j < n → f j ≡ g j)
    → sum 0 K.add n (λ j. K.mul (f j) (x j)) ≡ sum 0 K.add n (λ j. K.mul (g j) (x j))
unfolding sum
mix_same K zero f g x h = refl
mix_same K (suc n) f g x h =
    ap₂ K.add (mix_same K n f g x (λ j l. h j (omega arith))) (ap (λ (a : ℕ). K.mul a (x n)) (h n (omega arith)))

-- the factors' digits from the place p on, one place further down
pub combine_next : {K : Ops} → FieldLaws K → Digits K → (n p : ℕ) (f x : ℕ → ℕ) (old twice new : ℕ)
    → ((j : ℕ) → j < n → f j < K.order) → ((j : ℕ) → j < n → x j < K.order)
    → old ≡ sum 0 K.add n (λ j. K.mul (f j / 2 ^ (p + 1)) (x j)) → twice ≡ K.mul 2 old
    → new ≡ gained_all K n (λ j. f j / 2 ^ p % 2) x twice
    → new ≡ sum 0 K.add n (λ j. K.mul (f j / 2 ^ p) (x j))
combine_next {K} L D n p f x old twice new wf wx eo et en =
    let parts : (k j : ℕ) → j < n → f j / 2 ^ k < K.order = λ k j l. omega (arith, wf j l, shr_le (f j) k) in
    let two : twice < K.order = subst (λ (v : ℕ). v < K.order) (sym et)
    (L.mul_below 2 old D.two_below (subst (λ (v : ℕ). v < K.order) (sym eo) (mix_below L n (λ j. f j / 2 ^ (p + 1)) x (parts (p + 1)) wx))) in
    en
    ∙ gained_all_sum L n (λ j. f j / 2 ^ p % 2) x twice (λ j l. omega arith) wx two
    ∙ ap (λ (v : ℕ). K.add v (sum 0 K.add n (λ j. K.mul (f j / 2 ^ p % 2) (x j))))
    (et ∙ ap (K.mul 2) (eo ∙ mix_same K n (λ j. f j / 2 ^ (p + 1)) (λ j. f j / 2 ^ p / 2) x (λ j l. sym (shr-shr (f j) p 1))))
    ∙ sym (mix_double L D n (λ j. f j / 2 ^ p) x (parts p) wx)

-- each place holds the sum for the digits of the factors from the place p on
pub record DigitsDone (K : Ops) (p : ℕ) (rows factors : List ℕ) (w : ℕ) (out : List ℕ) : Type 0 where
  pub at : (k : ℕ) → k < w → get_or out k 0 ≡ sum 0 K.add (length factors) (λ j. K.mul (get_or factors j 0 / 2 ^ p) (get_or rows (j * w + k) 0))

-- nothing of a code stands above its digits
pub combine_none : {K : Ops} → FieldLaws K → Digits K → (n : ℕ) (f x : ℕ → ℕ)
    → ((j : ℕ) → j < n → f j < K.order) → ((j : ℕ) → j < n → x j < K.order)
    → sum 0 K.add n (λ j. K.mul (f j / 2 ^ K.width) (x j)) ≡ 0
combine_none {K} L D n f x wf wx =
    mix_none L n (λ j. f j / 2 ^ K.width) x
    (λ j l. let fits : f j < 2 ^ K.width = omega (arith, wf j l, D.order_fits) in div-eq_of_lt fits) wx

-- and all of it from the lowest on
pub combine_all : (K : Ops) (n : ℕ) (f x : ℕ → ℕ) → sum 0 K.add n (λ j. K.mul (f j / 2 ^ 0) (x j)) ≡ sum 0 K.add n (λ j. K.mul (f j) (x j))
combine_all K n f x = mix_same K n (λ j. f j / 2 ^ 0) f x (λ j l. div-one (f j))

module _ {K : Ops} (L : FieldLaws K) (rows factors : List ℕ) (w : ℕ) (wf : Codes K.order factors) (wx : Codes K.order rows)
    (size : length rows ≡ length factors * w) where
  entry_below : (k : ℕ) → k < w → (j : ℕ) → j < length factors → get_or rows (j * w + k) 0 < K.order
  entry_below k h j l = wx (j * w + k) (subst (λ (n : ℕ). j * w + k < n) (sym size) (digits_lt l h))

  pub combination_below : (k : ℕ) → k < w → combination K w rows factors k < K.order
  combination_below k h = mix_below L (length factors) (λ j. get_or factors j 0) (λ j. get_or rows (j * w + k) 0) wf (entry_below k h)

  module _ (D : Digits K) where
    pub done_start : (zeros : List ℕ) → ((k : ℕ) → k < w → get_or zeros k 0 ≡ 0) → DigitsDone K K.width rows factors w zeros
    done_start zeros z = record {
      at = λ k h. z k h ∙ sym (combine_none L D (length factors) (λ j. get_or factors j 0) (λ j. get_or rows (j * w + k) 0) wf (entry_below k h));
    }

    pub done_next : (p : ℕ) (out twice after : List ℕ) → DigitsDone K (p + 1) rows factors w out
        → ((k : ℕ) → k < w → get_or twice k 0 ≡ K.mul 2 (get_or out k 0))
        → ((k : ℕ) → k < w → get_or after k 0 ≡ gained_all K (length factors) (λ j. get_or factors j 0 / 2 ^ p % 2) (λ j. get_or rows (j * w + k) 0) (get_or twice k 0))
        → DigitsDone K p rows factors w after
    done_next p out twice after d e2 eg = record {
      at = λ k l. combine_next L D (length factors) p (λ j. get_or factors j 0) (λ j. get_or rows (j * w + k) 0) (get_or out k 0) (get_or twice k 0) (get_or after k 0)
          wf (entry_below k l) (d.at k l) (e2 k l) (eg k l);
    }

pub done_end : (K : Ops) (rows factors : List ℕ) (w : ℕ) (out : List ℕ) → DigitsDone K 0 rows factors w out
    → (k : ℕ) → k < w → get_or out k 0 ≡ combination K w rows factors k
done_end K rows factors w out d k l =
    d.at k l ∙ combine_all K (length factors) (λ j. get_or factors j 0) (λ j. get_or rows (j * w + k) 0)

-- the rows before that of the place i of the list, and the places before it in its row, have been gone through
pub record CombinedTo (K : Ops) (w : ℕ) (rows factors : List ℕ) (i : ℕ) (out : List ℕ) : Type 0 where
  pub before : (k : ℕ) → k < i % w → k < w → get_or out k 0 ≡ sum 0 K.add (suc (i / w)) (λ j. K.mul (get_or factors j 0) (get_or rows (j * w + k) 0))
  pub after : (k : ℕ) → i % w ≤ k → k < w → get_or out k 0 ≡ sum 0 K.add (i / w) (λ j. K.mul (get_or factors j 0) (get_or rows (j * w + k) 0))

module _ (K : Ops) (w : ℕ) (rows factors : List ℕ) where
  pub combined_start : (zeros : List ℕ) → ((k : ℕ) → k < w → get_or zeros k 0 ≡ 0) → CombinedTo K w rows factors 0 zeros
  unfolding sum
  combined_start zeros z = record {
    before = λ k a h. absurd (omega arith);
    after = λ k a h. z k h ∙ sym (ap (λ (n : ℕ). sum 0 K.add n (λ j. K.mul (get_or factors j 0) (get_or rows (j * w + k) 0))) (zero-div w));
  }

  -- the place in the row that was gone through last holds one term more
  turned : (i v : ℕ) (out : List ℕ) → w ≡ length out → 0 < w → CombinedTo K w rows factors i out
      → v ≡ K.add (get_or out (i % w) 0) (K.mul (get_or factors (i / w) 0) (get_or rows i 0))
      → (k : ℕ) → k ≤ i % w → k < w → get_or (set out (i % w) v) k 0 ≡ sum 0 K.add (suc (i / w)) (λ j. K.mul (get_or factors j 0) (get_or rows (j * w + k) 0))
  unfolding sum
  turned i v out e pos g ev k a h = elim (ℕ_discrete k (i % w)) [
    | yes s ↦
        let l : i % w < length out = let b = mod-lt i pos in omega arith in
        ap (λ (n : ℕ). get_or (set out (i % w) v) n 0) s ∙ get_or-set_same out (i % w) v 0 l ∙ ev
        ∙ ap₂ K.add (g.after (i % w) (omega arith) (mod-lt i pos)) (ap (λ (n : ℕ). K.mul (get_or factors (i / w) 0) (get_or rows n 0)) (sym (div-add-mod' i w)))
        ∙ ap (λ (n : ℕ). sum 0 K.add (suc (i / w)) (λ j. K.mul (get_or factors j 0) (get_or rows (j * w + n) 0))) (sym s)
    | no s ↦ get_or-set_other out (i % w) k v 0 s ∙ g.before k (omega arith) h
  ]

  pub combined_next : (i v : ℕ) (out : List ℕ) → w ≡ length out → 0 < w → CombinedTo K w rows factors i out
      → v ≡ K.add (get_or out (i % w) 0) (K.mul (get_or factors (i / w) 0) (get_or rows i 0))
      → CombinedTo K w rows factors (i + 1) (set out (i % w) v)
  combined_next i v out e pos g ev =
      let b = mod-lt i pos in
      let whole = div-add-mod' i w in
      elim (dec_lt (i % w + 1) w) [
        | yes more ↦
            let s : i + 1 ≡ i / w * w + (i % w + 1) = omega arith in
            let q : (i + 1) / w ≡ i / w = ap (λ (n : ℕ). n / w) s ∙ digits_div (i / w) more in
            let r : (i + 1) % w ≡ i % w + 1 = ap (λ (n : ℕ). n % w) s ∙ digits_mod (i / w) more in
            record {
              before = λ k a h. turned i v out e pos g ev k (omega arith) h
                  ∙ ap (λ (n : ℕ). sum 0 K.add (suc n) (λ j. K.mul (get_or factors j 0) (get_or rows (j * w + k) 0))) (sym q);
              after = λ k a h. let n : k ≢ i % w = omega arith in
                  get_or-set_other out (i % w) k v 0 n ∙ g.after k (omega arith) h
                  ∙ ap (λ (n : ℕ). sum 0 K.add n (λ j. K.mul (get_or factors j 0) (get_or rows (j * w + k) 0))) (sym q);
            }
        | no last ↦
            let full : i % w + 1 ≡ w = omega arith in
            let m = suc-mul (i / w) w in
            let s : i + 1 ≡ suc (i / w) * w + 0 = omega arith in
            let q : (i + 1) / w ≡ suc (i / w) = ap (λ (n : ℕ). n / w) s ∙ digits_div (suc (i / w)) pos in
            let r : (i + 1) % w ≡ 0 = ap (λ (n : ℕ). n % w) s ∙ digits_mod (suc (i / w)) pos in
            record {
              before = λ k a h. absurd (omega arith);
              after = λ k a h. turned i v out e pos g ev k (omega arith) h
                  ∙ ap (λ (n : ℕ). sum 0 K.add n (λ j. K.mul (get_or factors j 0) (get_or rows (j * w + k) 0))) (sym q);
            }
      ]

  pub combined_end : (i : ℕ) (out : List ℕ) → i ≡ length factors * w → 0 < w → CombinedTo K w rows factors i out
      → (k : ℕ) → k < w → get_or out k 0 ≡ combination K w rows factors k
  combined_end i out e pos g k h =
      let s : i ≡ length factors * w + 0 = omega arith in
      let q : i / w ≡ length factors = ap (λ (n : ℕ). n / w) s ∙ digits_div (length factors) pos in
      let r : i % w ≡ 0 = ap (λ (n : ℕ). n % w) s ∙ digits_mod (length factors) pos in
      g.after k (omega arith) h ∙ ap (λ (n : ℕ). sum 0 K.add n (λ j. K.mul (get_or factors j 0) (get_or rows (j * w + k) 0))) q
