-- Elimination as mathematics: a square system with a trivial kernel has exactly one solution. Assumes nothing.
use mathlib.Core.Path.{◌≡◌, refl, sym, ◌∙◌, ap}
use mathlib.Core.Logic.{◌≢◌, ◌↔◌, ◌⊎◌, inl, inr}
use Prim.Native.Nat.{ℕ, zero, suc, ◌<◌, ◌≤◌}
use native.Mathlib.Omega.{arith}
use native.Mathlib.Decide.{ℕ_discrete, dec_le}
use Rattle.algebra.specs.Field.{Field, Kernel, Units, Solves, Swapped, Scaled, Cleared, Columns, identity}
use Rattle.algebra.proofs.Ring.{mul-zero, mul_comm}
use Rattle.algebra.proofs.Rows.{units_none, units_swap, units_scale, units_clear, units_row, swap_alike, scale_alike, clear_alike, scaled_zeros, cleared_zeros, kernel_kept, pivot}

pub identity_at : {F : Type 0} (o e : F) (k : ℕ) → identity o e k k ≡ e
unfolding identity
identity_at o e zero = refl
identity_at o e (suc k) = identity_at o e k

pub identity_off : {F : Type 0} (o e : F) (r k : ℕ) → r ≢ k → identity o e r k ≡ o
unfolding identity
identity_off o e zero zero n = absurd (n refl)
identity_off o e zero (suc k) n = refl
identity_off o e (suc r) zero n = refl
identity_off o e (suc r) (suc k) n = identity_off o e r k (omega arith)

-- s with v in the place i
upd : {F : Type 0} → ℕ → F → (ℕ → F) → ℕ → F
upd i v s r = elim (ℕ_discrete r i) [ yes u ↦ v | no u ↦ s r ]

upd_at : {F : Type 0} (i : ℕ) (v : F) (s : ℕ → F) → upd i v s i ≡ v
unfolding upd
upd_at {F} i v s = at (ℕ_discrete i i)
  where
    at : (d : Dec (i ≡ i)) → (elim d as (λ _. F) [ yes u ↦ v | no u ↦ s i ]) ≡ v
    at (yes u) = refl
    at (no u) = absurd (u refl)

upd_off : {F : Type 0} (i r : ℕ) (v : F) (s : ℕ → F) → r ≢ i → upd i v s r ≡ s r
unfolding upd
upd_off {F} i r v s n = at (ℕ_discrete r i)
  where
    at : (d : Dec (r ≡ i)) → (elim d as (λ _. F) [ yes u ↦ v | no u ↦ s r ]) ≡ s r
    at (yes u) = absurd (n u)
    at (no u) = refl

-- the row operations, each on one column
swap : {F : Type 0} → ℕ → ℕ → (ℕ → F) → ℕ → F
swap i j s = upd i (s j) (upd j (s i) s)

swap_is : {F : Type 0} (m i j : ℕ) (s : ℕ → F) → Swapped m i j s (swap i j s)
unfolding swap
swap_is m i j s = record {
  here = upd_at i (s j) (upd j (s i) s);
  there = elim (ℕ_discrete j i) [
    | yes u ↦ ap (λ k. upd i (s j) (upd j (s i) s) k) u ∙ upd_at i (s j) (upd j (s i) s) ∙ ap s u
    | no u ↦ upd_off i j (s j) (upd j (s i) s) u ∙ upd_at j (s i) s
  ];
  rest = λ r l u v. upd_off i r (s j) (upd j (s i) s) u ∙ upd_off j r (s i) s v;
}

scale : {F : Type 0} → (F → F → F) → ℕ → F → (ℕ → F) → ℕ → F
scale mul i k s = upd i (mul k (s i)) s

scale_is : {F : Type 0} (mul : F → F → F) (m i : ℕ) (k : F) (s : ℕ → F) → Scaled mul m i k s (scale mul i k s)
unfolding scale
scale_is mul m i k s = record { here = upd_at i (mul k (s i)) s; rest = λ r l u. upd_off i r (mul k (s i)) s u }

clear : {F : Type 0} → (F → F → F) → (F → F → F) → ℕ → (ℕ → F) → (ℕ → F) → ℕ → F
clear add mul c f s = upd c (s c) (λ r. add (s r) (mul (f r) (s c)))

clear_is : {F : Type 0} (add mul : F → F → F) (m c : ℕ) (f s : ℕ → F) → Cleared add mul m c f s (clear add mul c f s)
unfolding clear
clear_is add mul m c f s = record {
  here = upd_at c (s c) (λ r. add (s r) (mul (f r) (s c)));
  rest = λ r l u. upd_off c r (s c) (λ r. add (s r) (mul (f r) (s c))) u;
}

-- a place from c up at which f is not o, or none below n
pub find : {F : Type 0} (o : F) → ((a b : F) → Dec (a ≡ b)) → (f : ℕ → F) (c n : ℕ)
    → ((r : ℕ) × (c ≤ r) × (r < n) × (f r ≢ o)) ⊎ ((r : ℕ) → c ≤ r → r < n → f r ≡ o)
find o dec f c zero = inr (λ r h l. absurd (omega arith))
find o dec f c (suc n) = elim (find o dec f c n) [
  | inl (r, h, l, v) ↦ inl (r, h, omega arith, v)
  | inr g ↦ elim (dec (f n) o) [
    | yes u ↦ inr (λ r h l. elim (ℕ_discrete r n) [ yes t ↦ ap f t ∙ u | no t ↦ g r h (omega arith) ])
    | no u ↦ elim (dec_le c n) [
      | yes t ↦ inl (n, t, omega arith, u)
      | no t ↦ inr (λ r h l. absurd (omega arith))
    ]
  ]
]

module _ {F : Type 0} {o e : F} {◌⊕◌ ◌⊗◌ : F → F → F} {neg inv : F → F} (K : Field o e ◌⊕◌ ◌⊗◌ neg inv) where
  infixl 20 ◌⊕◌
  infixl 25 ◌⊗◌
  swapped_zeros : (m i j : ℕ) → Swapped m i j (λ r. o) (λ r. o)
  swapped_zeros m i j = record { here = refl; there = refl; rest = λ r l u v. refl }

  module _ (m : ℕ) (A : ℕ → ℕ → F) (s : ℕ → F) where
    -- B x = t says what A x = s says, B has a trivial kernel, and c columns are done
    record Reduced (c : ℕ) (B : ℕ → ℕ → F) (t : ℕ → F) : Type 0 where
      alike : (x : ℕ → F) → (Solves o ◌⊕◌ ◌⊗◌ m A x s ↔ Solves o ◌⊕◌ ◌⊗◌ m B x t)
      kernel : Kernel o ◌⊕◌ ◌⊗◌ m B
      units : Units o e m c B

    -- a step that keeps the solutions, whatever the right side
    step : (c d : ℕ) (B C : ℕ → ℕ → F) (t v : ℕ → F) → Reduced c B t
        → ((x : ℕ → F) → (Solves o ◌⊕◌ ◌⊗◌ m B x t ↔ Solves o ◌⊕◌ ◌⊗◌ m C x v))
        → ((x : ℕ → F) → (Solves o ◌⊕◌ ◌⊗◌ m B x (λ r. o) ↔ Solves o ◌⊕◌ ◌⊗◌ m C x (λ r. o)))
        → Units o e m d C → Reduced d C v
    step c d B C t v h f z u = record {
      alike = λ x. (λ p. (f x).0 ((h.alike x).0 p), λ p. (h.alike x).1 ((f x).1 p));
      kernel = kernel_kept K m B C z h.kernel;
      units = u;
    }

    -- with the pivot in the row p
    turn : (c p : ℕ) → c < m → c ≤ p → p < m → (B : ℕ → ℕ → F) (t : ℕ → F) → B p c ≢ o → Reduced c B t
        → (C : ℕ → ℕ → F) × (v : ℕ → F) × Reduced (suc c) C v
    turn c p lc g lp B t n h =
        let k = inv (B p c) in
        let B1 : ℕ → ℕ → F = λ r j. swap c p (λ i. B i j) r in
        let t1 = swap c p t in
        let a1 : Columns m (Swapped m c p) B B1 = λ j l. swap_is m c p (λ i. B i j) in
        let B2 : ℕ → ℕ → F = λ r j. scale ◌⊗◌ c k (λ i. B1 i j) r in
        let t2 = scale ◌⊗◌ c k t1 in
        let a2 : Columns m (Scaled ◌⊗◌ m c k) B1 B2 = λ j l. scale_is ◌⊗◌ m c k (λ i. B1 i j) in
        let f : ℕ → F = λ r. neg (B2 r c) in
        let B3 : ℕ → ℕ → F = λ r j. clear ◌⊕◌ ◌⊗◌ c f (λ i. B2 i j) r in
        let t3 = clear ◌⊕◌ ◌⊗◌ c f t2 in
        let a3 : Columns m (Cleared ◌⊕◌ ◌⊗◌ m c f) B2 B3 = λ j l. clear_is ◌⊕◌ ◌⊗◌ m c f (λ i. B2 i j) in
        let kn : k ≢ o = λ v. K.one_not_zero (sym (K.mul_inv (B p c) n) ∙ ap (λ z. B p c ⊗ z) v ∙ mul-zero K (B p c)) in
        let one : B2 c c ≡ e = (a2 c lc).here ∙ ap (λ z. k ⊗ z) (a1 c lc).here ∙ mul_comm K k (B p c) ∙ K.mul_inv (B p c) n in
        let h1 = step c c B B1 t t1 h (swap_alike K m c p lc lp B B1 t t1 a1 (swap_is m c p t))
        (swap_alike K m c p lc lp B B1 _ _ a1 (swapped_zeros m c p)) (units_swap K m c B B1 h.units p g lp a1) in
        let h2 = step c c B1 B2 t1 t2 h1 (scale_alike K m c k lc kn B1 B2 t1 t2 a2 (scale_is ◌⊗◌ m c k t1))
        (scale_alike K m c k lc kn B1 B2 _ _ a2 (scaled_zeros K m c k)) (units_scale K m c B1 B2 h1.units k lc a2) in
        let h3 = step c (suc c) B2 B3 t2 t3 h2 (clear_alike K m c f lc B2 B3 t2 t3 a3 (clear_is ◌⊕◌ ◌⊗◌ m c f t2))
        (clear_alike K m c f lc B2 B3 _ _ a3 (cleared_zeros K m c f)) (units_clear K m c B2 B3 h2.units f lc a3 one (λ r l v. refl)) in
        (B3, t3, h3)

    reduce : Kernel o ◌⊕◌ ◌⊗◌ m A → (c : ℕ) → c ≤ m → (B : ℕ → ℕ → F) × (t : ℕ → F) × Reduced c B t
    reduce h zero l = (A, s, record { alike = λ x. (λ p. p, λ p. p); kernel = h; units = units_none o e m A })
    reduce h (suc c) l =
        let (B, t, d) = reduce h c (omega arith) in
        elim (find o K.discrete (λ r. B r c) c m) [
          | inl (p, g, lp, n) ↦ turn c p l g lp B t n d
          | inr z ↦ absurd (pivot K m B d.kernel c l d.units z)
        ]

    -- the one x with A x = s
    pub exactly : Kernel o ◌⊕◌ ◌⊗◌ m A → (t : ℕ → F) × ((x : ℕ → F) → (Solves o ◌⊕◌ ◌⊗◌ m A x s ↔ ((j : ℕ) → j < m → x j ≡ t j)))
    exactly h =
        let (B, t, d) = reduce h m (omega arith) in (
          t,
          λ x. (
            λ p j l. sym (units_row K m j B x d.units l) ∙ (d.alike x).0 p j l,
            λ p. (d.alike x).1 (λ r l. units_row K m r B x d.units l ∙ p r l),
          ),
        )

  pub solve : (m : ℕ) (A : ℕ → ℕ → F) → Kernel o ◌⊕◌ ◌⊗◌ m A → (s : ℕ → F) → (x : ℕ → F) × Solves o ◌⊕◌ ◌⊗◌ m A x s
  solve m A h s = let (t, q) = exactly m A s h in (t, (q t).1 (λ j l. refl))

  pub unique : (m : ℕ) (A : ℕ → ℕ → F) → Kernel o ◌⊕◌ ◌⊗◌ m A → (x y s : ℕ → F) → Solves o ◌⊕◌ ◌⊗◌ m A x s → Solves o ◌⊕◌ ◌⊗◌ m A y s
      → (j : ℕ) → j < m → x j ≡ y j
  unique m A h x y s p r j l = let (t, q) = exactly m A s h in (q x).0 p j l ∙ sym ((q y).0 r j l)
