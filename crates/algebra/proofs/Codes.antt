-- The codes of a field as a type with the laws of a field, and the way there and back. Assumes nothing.
use mathlib.Core.Path.{◌≡◌, sym, ◌∙◌, ap, ap₂}
use mathlib.Core.Logic.{◌≢◌, ◌↔◌}
use Prim.Native.Nat.{ℕ, zero, suc, ◌%◌, ◌<◌, ◌≤◌, Fin}
use native.Mathlib.Nat.{mod-lt, mod-eq_of_lt}
use native.Mathlib.Omega.{arith}
use native.Mathlib.Decide.{Fin-discrete}
use Rattle.field.specs.Laws.{Ops, FieldLaws}
use Rattle.algebra.specs.Field as abstract
use Rattle.field.specs.Sums.{sum}
use Rattle.algebra.specs.Field.{Field, Distinct, Kernel, Units, Swapped, Scaled, Added, Cleared}
use Rattle.algebra.specs.Codes.{Below, Rows, dot, power, eval, Solves, Regular, SameSolutions}
use Rattle.algebra.proofs.Ring.{sum_same}
use Rattle.algebra.proofs.Rows.{split_at}

module _ {K : Ops} (L : FieldLaws K) where
  -- the element of a code; of a larger number, that of the rest by the order
  unfoldable pub up : ℕ → Fin K.order
  up n = (n % K.order, mod-lt n (let h = L.one_below in omega arith))

  abbrev pub Zero : Fin K.order
  Zero = (0, let h = L.one_below in omega arith)

  abbrev pub One : Fin K.order
  One = (1, L.one_below)

  abbrev pub Add : Fin K.order → Fin K.order → Fin K.order
  Add a b = (K.add a.0 b.0, L.add_below a.0 b.0 a.1 b.1)

  abbrev pub Mul : Fin K.order → Fin K.order → Fin K.order
  Mul a b = (K.mul a.0 b.0, L.mul_below a.0 b.0 a.1 b.1)

  abbrev pub Neg : Fin K.order → Fin K.order
  Neg a = (K.neg a.0, L.neg_below a.0 a.1)

  abbrev pub Inv : Fin K.order → Fin K.order
  Inv a = (K.inv a.0, L.inv_below a.0 a.1)

  pub field : Field Zero One Add Mul Neg Inv
  field = record {
    discrete = Fin-discrete K.order;
    one_not_zero = λ v. let h : ◌≡◌ {A = ℕ} 1 0 = ap (λ a. a.0) v in omega arith;
    add_assoc = λ a b c. native.Mathlib.Fin.val_path (L.add_assoc a.0 b.0 c.0 a.1 b.1 c.1);
    add_comm = λ a b. native.Mathlib.Fin.val_path (L.add_comm a.0 b.0 a.1 b.1);
    add-zero = λ a. native.Mathlib.Fin.val_path (L.add-zero a.0 a.1);
    add_neg = λ a. native.Mathlib.Fin.val_path (L.add_neg a.0 a.1);
    mul_assoc = λ a b c. native.Mathlib.Fin.val_path (L.mul_assoc a.0 b.0 c.0 a.1 b.1 c.1);
    mul_comm = λ a b. native.Mathlib.Fin.val_path (L.mul_comm a.0 b.0 a.1 b.1);
    mul-one = λ a. native.Mathlib.Fin.val_path (L.mul-one a.0 a.1);
    mul_inv = λ a n. native.Mathlib.Fin.val_path (L.mul_inv a.0 a.1 (λ v. n (native.Mathlib.Fin.val_path v)));
    mul-add = λ a b c. native.Mathlib.Fin.val_path (L.mul-add a.0 b.0 c.0 a.1 b.1 c.1);
  }

  pub up_code : (n : ℕ) → n < K.order → (up n).0 ≡ n
  unfolding up
  up_code n l = mod-eq_of_lt l

  pub up_of : (a : Fin K.order) → up a.0 ≡ a
  up_of a = native.Mathlib.Fin.val_path (up_code a.0 a.1)

  pub up_zero : up 0 ≡ Zero
  up_zero = native.Mathlib.Fin.val_path (up_code 0 Zero.1)

  pub up_one : up 1 ≡ One
  up_one = native.Mathlib.Fin.val_path (up_code 1 L.one_below)

  pub up_add : (a b : ℕ) → a < K.order → b < K.order → up (K.add a b) ≡ Add (up a) (up b)
  up_add a b la lb = native.Mathlib.Fin.val_path (up_code (K.add a b) (L.add_below a b la lb) ∙ sym (ap₂ K.add (up_code a la) (up_code b lb)))

  pub up_mul : (a b : ℕ) → a < K.order → b < K.order → up (K.mul a b) ≡ Mul (up a) (up b)
  up_mul a b la lb = native.Mathlib.Fin.val_path (up_code (K.mul a b) (L.mul_below a b la lb) ∙ sym (ap₂ K.mul (up_code a la) (up_code b lb)))

  pub up_neg : (a : ℕ) → a < K.order → up (K.neg a) ≡ Neg (up a)
  up_neg a la = native.Mathlib.Fin.val_path (up_code (K.neg a) (L.neg_below a la) ∙ sym (ap K.neg (up_code a la)))

  pub up_inv : (a : ℕ) → a < K.order → up (K.inv a) ≡ Inv (up a)
  up_inv a la = native.Mathlib.Fin.val_path (up_code (K.inv a) (L.inv_below a la) ∙ sym (ap K.inv (up_code a la)))

  pub up_same : (a b : ℕ) → a < K.order → b < K.order → up a ≡ up b → a ≡ b
  up_same a b la lb h = sym (up_code a la) ∙ ap (λ c. c.0) h ∙ up_code b lb

  pub up_not_zero : (a : ℕ) → a < K.order → a ≢ 0 → up a ≢ Zero
  up_not_zero a l n v = n (up_same a 0 l Zero.1 (v ∙ sym up_zero))

  pub up_distinct : (m : ℕ) (a : ℕ → ℕ) → Below K.order m a → Distinct m a → Distinct m (λ i. up (a i))
  up_distinct m a w d i j li lj n h = d i j li lj n (up_same (a i) (a j) (w i li) (w j lj) h)

  sum_below : (n : ℕ) (f : ℕ → ℕ) → Below K.order n f → sum 0 K.add n f < K.order
  unfolding sum
  sum_below zero f w = Zero.1
  sum_below (suc n) f w = L.add_below _ _ (sum_below n f (λ j l. w j (omega arith))) (w n (omega arith))

  up_sum : (n : ℕ) (f : ℕ → ℕ) → Below K.order n f → up (sum 0 K.add n f) ≡ sum Zero Add n (λ j. up (f j))
  unfolding sum
  up_sum zero f w = up_zero
  up_sum (suc n) f w =
      up_add _ _ (sum_below n f (λ j l. w j (omega arith))) (w n (omega arith)) ∙ ap (λ z. Add z (up (f n))) (up_sum n f (λ j l. w j (omega arith)))

  pub dot_below : (m : ℕ) (u x : ℕ → ℕ) → Below K.order m u → Below K.order m x → dot K m u x < K.order
  dot_below m u x wu wx = sum_below m _ (λ j l. L.mul_below (u j) (x j) (wu j l) (wx j l))

  pub up_dot : (m : ℕ) (u x : ℕ → ℕ) → Below K.order m u → Below K.order m x
      → up (dot K m u x) ≡ abstract.dot Zero Add Mul m (λ j. up (u j)) (λ j. up (x j))
  up_dot m u x wu wx =
      up_sum m _ (λ j l. L.mul_below (u j) (x j) (wu j l) (wx j l)) ∙ sum_same Zero Add m _ _ (λ j l. up_mul (u j) (x j) (wu j l) (wx j l))

  -- a row of codes by a column of elements
  pub dot_down : (m : ℕ) (u : ℕ → ℕ) (y : ℕ → Fin K.order) → Below K.order m u
      → dot K m u (λ j. (y j).0) ≡ (abstract.dot Zero Add Mul m (λ j. up (u j)) y).0
  dot_down m u y wu =
      sym (up_code _ (dot_below m u (λ j. (y j).0) wu (λ j l. (y j).1)))
      ∙ ap (λ a. a.0) (up_dot m u (λ j. (y j).0) wu (λ j l. (y j).1) ∙ sum_same Zero Add m _ _ (λ j l. ap (Mul (up (u j))) (up_of (y j))))

  pub power_below : (x n : ℕ) → x < K.order → power K x n < K.order
  unfolding abstract.power
  power_below x zero l = L.one_below
  power_below x (suc n) l = L.mul_below _ _ (power_below x n l) l

  pub up_power : (x n : ℕ) → x < K.order → up (power K x n) ≡ abstract.power One Mul (up x) n
  unfolding abstract.power
  up_power x zero l = up_one
  up_power x (suc n) l = up_mul _ _ (power_below x n l) l ∙ ap (λ z. Mul z (up x)) (up_power x n l)

  eval_below : (m : ℕ) (p : ℕ → ℕ) (x : ℕ) → Below K.order m p → x < K.order → eval K m p x < K.order
  unfolding abstract.eval
  eval_below zero p x wp wx = Zero.1
  eval_below (suc m) p x wp wx =
      L.add_below _ _ (wp 0 (omega arith)) (L.mul_below _ _ wx (eval_below m (λ j. p (suc j)) x (λ j l. wp (suc j) (omega arith)) wx))

  pub up_eval : (m : ℕ) (p : ℕ → ℕ) (x : ℕ) → Below K.order m p → x < K.order
      → up (eval K m p x) ≡ abstract.eval Zero Add Mul m (λ j. up (p j)) (up x)
  unfolding abstract.eval
  up_eval zero p x wp wx = up_zero
  up_eval (suc m) p x wp wx =
      let wq : Below K.order m (λ j. p (suc j)) = λ j l. wp (suc j) (omega arith) in
      let we = eval_below m (λ j. p (suc j)) x wq wx in
      up_add _ _ (wp 0 (omega arith)) (L.mul_below _ _ wx we) ∙ ap (Add (up (p 0))) (up_mul x _ wx we ∙ ap (Mul (up x)) (up_eval m (λ j. p (suc j)) x wq wx))

  -- a trivial kernel of elements is one of codes
  pub kernel_codes : (m : ℕ) (A : ℕ → ℕ → ℕ) (B : ℕ → ℕ → Fin K.order) → Rows K.order m m A
      → ((r j : ℕ) → r < m → j < m → up (A r j) ≡ B r j) → Kernel Zero Add Mul m B → Regular K m A
  kernel_codes m A B wA e h x wx z j l =
      up_same (x j) 0 (wx j l) Zero.1
      (h (λ j. up (x j)) (λ r k. sum_same Zero Add m _ _ (λ i n. ap (λ w. Mul w (up (x i))) (sym (e r i k n))) ∙ sym (up_dot m (A r) x (wA r k) wx) ∙ ap up (z r k) ∙ up_zero) j l
      ∙ sym up_zero)

  -- and the other way
  pub regular_kernel : (m : ℕ) (A : ℕ → ℕ → ℕ) → Rows K.order m m A → Regular K m A → Kernel Zero Add Mul m (λ r c. up (A r c))
  regular_kernel m A wA h y z j l =
      sym (up_of (y j)) ∙ ap up (h (λ j. (y j).0) (λ j k. (y j).1) (λ r d. dot_down m (A r) y (wA r d) ∙ ap (λ c. c.0) (z r d)) j l) ∙ up_zero

  pub solves_codes : (m : ℕ) (A : ℕ → ℕ → ℕ) (x s : ℕ → ℕ) → Rows K.order m m A → Below K.order m x → Below K.order m s
      → (Solves K m A x s ↔ abstract.Solves Zero Add Mul m (λ r j. up (A r j)) (λ j. up (x j)) (λ r. up (s r)))
  solves_codes m A x s wA wx ws = (
    λ h r l. sym (up_dot m (A r) x (wA r l) wx) ∙ ap up (h r l),
    λ h r l. up_same _ (s r) (dot_below m (A r) x (wA r l) wx) (ws r l) (up_dot m (A r) x (wA r l) wx ∙ h r l),
  )

  pub same_codes : (m : ℕ) (A B : ℕ → ℕ → ℕ) (s t : ℕ → ℕ) → Rows K.order m m A → Rows K.order m m B → Below K.order m s → Below K.order m t
      → ((x : ℕ → Fin K.order) → (abstract.Solves Zero Add Mul m (λ r j. up (A r j)) x (λ r. up (s r)) ↔ abstract.Solves Zero Add Mul m (λ r j. up (B r j)) x (λ r. up (t r))))
      → SameSolutions K m A s B t
  same_codes m A B s t wA wB ws wt h x wx =
      let a = solves_codes m A x s wA wx ws in
      let b = solves_codes m B x t wB wx wt in
      let f = h (λ j. up (x j)) in
      (λ p. b.1 (f.0 (a.0 p)), λ p. a.1 (f.1 (b.0 p)))

  pub units_up : (m c : ℕ) (M : ℕ → ℕ → ℕ) → Units 0 1 m c M → Units Zero One m c (λ r c. up (M r c))
  units_up m c M u = record {
    diag = λ k l. ap up (u.diag k l) ∙ up_one;
    off = λ r k l d n. ap up (u.off r k l d n) ∙ up_zero;
  }

  pub units_down : (m c : ℕ) (M : ℕ → ℕ → ℕ) → Rows K.order m m M → c ≤ m → Units Zero One m c (λ r c. up (M r c)) → Units 0 1 m c M
  units_down m c M w lc u = record {
    diag = λ k l. up_same (M k k) 1 (w k (omega arith) k (omega arith)) L.one_below (u.diag k l ∙ sym up_one);
    off = λ r k l d n. up_same (M r k) 0 (w r l k (omega arith)) Zero.1 (u.off r k l d n ∙ sym up_zero);
  }

  -- row operations give codes, and are row operations on elements
  module _ (m : ℕ) (s t : ℕ → ℕ) (w : Below K.order m s) where
    pub swapped_up : (i j : ℕ) → Swapped m i j s t → Swapped m i j (λ r. up (s r)) (λ r. up (t r))
    swapped_up i j a = record { here = ap up a.here; there = ap up a.there; rest = λ r l u v. ap up (a.rest r l u v) }

    pub scaled_up : (i k : ℕ) → i < m → k < K.order → Scaled K.mul m i k s t → Scaled Mul m i (up k) (λ r. up (s r)) (λ r. up (t r))
    scaled_up i k li lk a = record {
      here = ap up a.here ∙ up_mul k (s i) lk (w i li);
      rest = λ r l n. ap up (a.rest r l n);
    }

    pub added_up : (i j k : ℕ) → i < m → j < m → k < K.order → Added K.add K.mul m i j k s t → Added Add Mul m i j (up k) (λ r. up (s r)) (λ r. up (t r))
    added_up i j k li lj lk a = record {
      here = ap up a.here ∙ up_add _ _ (w i li) (L.mul_below k (s j) lk (w j lj)) ∙ ap (Add (up (s i))) (up_mul k (s j) lk (w j lj));
      rest = λ r l n. ap up (a.rest r l n);
    }

    pub cleared_up : (c : ℕ) (f : ℕ → ℕ) → c < m → ((r : ℕ) → r < m → r ≢ c → f r < K.order) → Cleared K.add K.mul m c f s t
        → Cleared Add Mul m c (λ r. up (f r)) (λ r. up (s r)) (λ r. up (t r))
    cleared_up c f lc wf a = record {
      here = ap up a.here;
      rest = λ r l n. ap up (a.rest r l n) ∙ up_add _ _ (w r l) (L.mul_below (f r) (s c) (wf r l n) (w c lc))
          ∙ ap (Add (up (s r))) (up_mul (f r) (s c) (wf r l n) (w c lc));
    }

    pub swapped_below : (i j : ℕ) → i < m → j < m → Swapped m i j s t → Below K.order m t
    swapped_below i j li lj a =
        let P : ℕ → Type 0 = λ r. t r < K.order in
        split_at m i P (rw a.here (w j lj)) (λ r l u. split_at m j (λ r. r ≢ i → t r < K.order) (λ _. rw a.there (w i li))
        (λ r l v u. rw (a.rest r l u v) (w r l)) r l u)

    pub scaled_below : (i k : ℕ) → i < m → k < K.order → Scaled K.mul m i k s t → Below K.order m t
    scaled_below i k li lk a = split_at m i (λ r. t r < K.order) (rw a.here (L.mul_below k (s i) lk (w i li))) (λ r l n. rw (a.rest r l n) (w r l))

    pub added_below : (i j k : ℕ) → i < m → j < m → k < K.order → Added K.add K.mul m i j k s t → Below K.order m t
    added_below i j k li lj lk a =
        split_at m i (λ r. t r < K.order) (rw a.here (L.add_below _ _ (w i li) (L.mul_below k (s j) lk (w j lj)))) (λ r l n. rw (a.rest r l n) (w r l))
