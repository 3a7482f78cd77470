-- Row operations on a square system, and what they keep. Assumes nothing.
use mathlib.Core.Path.{◌≡◌, refl, sym, ◌∙◌, ap, ap₂, subst}
use mathlib.Core.Logic.{◌≢◌, ◌↔◌}
use Prim.Native.Nat.{ℕ, zero, suc, ◌<◌, ◌≤◌}
use native.Mathlib.Omega.{arith}
use native.Mathlib.Decide.{ℕ_discrete, dec_lt}
use Rattle.field.specs.Sums.{sum}
use Rattle.algebra.specs.Field.{Field, dot, Kernel, Units, Solves, Swapped, Scaled, Added, Cleared, Columns}
use Rattle.algebra.proofs.Ring.{add_comm, add-zero, mul-zero, zero-mul, mul-one, one-mul, mul_assoc, mul-add, add-mul, add_neg, add_cancel, neg_add, sub_zero, mul_cancel_zero, sum_congr, sum_zeros, sum_scale, sum_add, sum_one}

-- the row i, and the others
pub split_at : (m i : ℕ) (P : ℕ → Type 0) → P i → ((r : ℕ) → r < m → r ≢ i → P r) → (r : ℕ) → r < m → P r
split_at m i P h g r l = elim (ℕ_discrete r i) [ yes u ↦ subst P (sym u) h | no u ↦ g r l u ]

split_at_with : (m i : ℕ) (P C : ℕ → Type 0) → P i → ((r : ℕ) → r < m → r ≢ i → C r → P r) → (r : ℕ) → r < m → C r → P r
split_at_with m i P C h g = split_at m i (λ r. C r → P r) (λ _. h) g

swapped_back : {F : Type 0} (m i j : ℕ) (s t : ℕ → F) → Swapped m i j s t → Swapped m i j t s
swapped_back m i j s t a = record { here = sym a.there; there = sym a.here; rest = λ r l u v. sym (a.rest r l u v) }

-- before any column is done
pub units_none : {F : Type 0} (o e : F) (m : ℕ) (L : ℕ → ℕ → F) → Units o e m 0 L
units_none o e m L = record { diag = λ k d. absurd (omega arith); off = λ r k a d. absurd (omega arith) }

module _ {F : Type 0} {o e : F} {◌⊕◌ ◌⊗◌ : F → F → F} {neg inv : F → F} (K : Field o e ◌⊕◌ ◌⊗◌ neg inv) where
  infixl 20 ◌⊕◌
  infixl 25 ◌⊗◌
  -- k a = k b gives a = b
  pub mul_cancel : (k a b : F) → k ≢ o → k ⊗ a ≡ k ⊗ b → a ≡ b
  mul_cancel k a b n h =
      sub_zero K a b (mul_cancel_zero K k (a ⊕ neg b) n (rw (mul-add K k a (neg b), h, ← mul-add K k b (neg b), add_neg K b) (mul-zero K k)))

  pub dot_congr : (m : ℕ) (u v x : ℕ → F) → ((c : ℕ) → c < m → u c ≡ v c) → dot o ◌⊕◌ ◌⊗◌ m u x ≡ dot o ◌⊕◌ ◌⊗◌ m v x
  dot_congr m u v x h = sum_congr K m _ _ (λ c l. ap (λ w. w ⊗ x c) (h c l))

  pub dot_scale : (m : ℕ) (k : F) (u v x : ℕ → F) → ((c : ℕ) → c < m → v c ≡ k ⊗ u c) → dot o ◌⊕◌ ◌⊗◌ m v x ≡ k ⊗ dot o ◌⊕◌ ◌⊗◌ m u x
  dot_scale m k u v x h = sum_congr K m _ (λ c. k ⊗ (u c ⊗ x c)) (λ c l. rw (h c l) (mul_assoc K k (u c) (x c))) ∙ sum_scale K m k (λ c. u c ⊗ x c)

  pub dot_add : (m : ℕ) (k : F) (u w v x : ℕ → F) → ((c : ℕ) → c < m → v c ≡ u c ⊕ k ⊗ w c)
      → dot o ◌⊕◌ ◌⊗◌ m v x ≡ dot o ◌⊕◌ ◌⊗◌ m u x ⊕ k ⊗ dot o ◌⊕◌ ◌⊗◌ m w x
  dot_add m k u w v x h =
      sum_congr K m _ (λ c. u c ⊗ x c ⊕ k ⊗ (w c ⊗ x c)) (λ c l. rw (h c l, add-mul K (u c) (k ⊗ w c) (x c), mul_assoc K k (w c) (x c)))
      ∙ sum_add K m (λ c. u c ⊗ x c) (λ c. k ⊗ (w c ⊗ x c)) ∙ ap (λ z. dot o ◌⊕◌ ◌⊗◌ m u x ⊕ z) (sum_scale K m k (λ c. w c ⊗ x c))

  -- a row of the identity picks its place
  pub dot_unit : (m r : ℕ) (u x : ℕ → F) → r < m → u r ≡ e → ((c : ℕ) → c < m → c ≢ r → u c ≡ o) → dot o ◌⊕◌ ◌⊗◌ m u x ≡ x r
  dot_unit m r u x l h z =
      sum_one K m r (λ c. u c ⊗ x c) l (λ c k n. rw (z c k n) (zero-mul K (x c))) ∙ rw h (one-mul K (x r))

  pub units_row : (m r : ℕ) (U : ℕ → ℕ → F) (x : ℕ → F) → Units o e m m U → r < m → dot o ◌⊕◌ ◌⊗◌ m (U r) x ≡ x r
  units_row m r U x h l = dot_unit m r (U r) x l (h.diag r l) (λ c k n. h.off r c l k (λ v. n (sym v)))

  pub sum_two : (n p q : ℕ) (f : ℕ → F) → p < n → q < n → p ≢ q → ((j : ℕ) → j < n → j ≢ p → j ≢ q → f j ≡ o) → sum o ◌⊕◌ n f ≡ f p ⊕ f q
  unfolding sum
  sum_two zero p q f lp lq d h = absurd (omega arith)
  sum_two (suc n) p q f lp lq d h = elim (ℕ_discrete n p) [
    | yes s ↦ ap₂ (λ y z. y ⊕ f z) (sum_one K n q f (omega arith) (λ j k v. h j (omega arith) (omega arith) v)) s ∙ add_comm K (f q) (f p)
    | no s ↦ elim (ℕ_discrete n q) [
      | yes t ↦ ap₂ (λ y z. y ⊕ f z) (sum_one K n p f (omega arith) (λ j k v. h j (omega arith) v (omega arith))) t
      | no t ↦ ap₂ (λ y z. y ⊕ z) (sum_two n p q f (omega arith) (omega arith) d (λ j k. h j (omega arith))) (h n (omega arith) s t) ∙ add-zero K _
    ]
  ]

  add_cancel_right : (a b y z : F) → y ≡ z → a ⊕ y ≡ b ⊕ z → a ≡ b
  add_cancel_right a b y z h p = add_cancel K y a b (add_comm K y a ∙ p ∙ ap (λ w. b ⊕ w) (sym h) ∙ add_comm K b y)

  -- k at i, else zero
  only : ℕ → F → ℕ → F
  only i k r = elim (ℕ_discrete r i) [ yes u ↦ k | no u ↦ o ]

  only_at : (i : ℕ) (k : F) → only i k i ≡ k
  unfolding only
  only_at i k = at (ℕ_discrete i i)
    where
      at : (d : Dec (i ≡ i)) → (elim d as (λ _. F) [ yes u ↦ k | no u ↦ o ]) ≡ k
      at (yes u) = refl
      at (no u) = absurd (u refl)

  only_off : (i r : ℕ) (k : F) → r ≢ i → only i k r ≡ o
  unfolding only
  only_off i r k n = at (ℕ_discrete r i)
    where
      at : (d : Dec (r ≡ i)) → (elim d as (λ _. F) [ yes u ↦ k | no u ↦ o ]) ≡ o
      at (yes u) = absurd (n u)
      at (no u) = refl

  added_cleared : (m i j : ℕ) (k : F) → j < m → i ≢ j → (s t : ℕ → F) → Added ◌⊕◌ ◌⊗◌ m i j k s t → Cleared ◌⊕◌ ◌⊗◌ m j (only i k) s t
  added_cleared m i j k lj n s t a = record {
    here = a.rest j lj (λ v. n (sym v));
    rest = λ r lr nr. elim (ℕ_discrete r i) [
      | yes u ↦ rw (u, only_at i k) a.here
      | no u ↦ rw (only_off i r k u, zero-mul K (s j), add-zero K (s r)) (a.rest r lr u)
    ];
  }

  -- - v above the place c, one at it, zero below
  pub column : ℕ → (ℕ → F) → ℕ → F
  column c v k = elim (dec_lt k c) [ yes u ↦ neg (v k) | no u ↦ elim (ℕ_discrete k c) [ yes w ↦ e | no w ↦ o ] ]

  column_above : (c : ℕ) (v : ℕ → F) (k : ℕ) → k < c → column c v k ≡ neg (v k)
  unfolding column
  column_above c v k l = at (dec_lt k c)
    where
      at : (d : Dec (k < c)) → (elim d as (λ _. F) [ yes u ↦ neg (v k) | no u ↦ elim (ℕ_discrete k c) [ yes w ↦ e | no w ↦ o ] ]) ≡ neg (v k)
      at (yes u) = refl
      at (no u) = absurd (u l)

  pub column_at : (c : ℕ) (v : ℕ → F) → column c v c ≡ e
  unfolding column
  column_at c v = at (dec_lt c c) (ℕ_discrete c c)
    where
      at : (d : Dec (c < c)) (d' : Dec (c ≡ c)) → (elim d as (λ _. F) [ yes u ↦ neg (v c) | no u ↦ elim d' [ yes w ↦ e | no w ↦ o ] ]) ≡ e
      at (yes u) d' = absurd (omega arith)
      at (no u) (yes w) = refl
      at (no u) (no w) = absurd (w refl)

  column_below : (c : ℕ) (v : ℕ → F) (k : ℕ) → c < k → column c v k ≡ o
  unfolding column
  column_below c v k l = at (dec_lt k c) (ℕ_discrete k c)
    where
      at : (d : Dec (k < c)) (d' : Dec (k ≡ c)) → (elim d as (λ _. F) [ yes u ↦ neg (v k) | no u ↦ elim d' [ yes w ↦ e | no w ↦ o ] ]) ≡ o
      at (yes u) d' = absurd (omega arith)
      at (no u) (yes w) = absurd (omega arith)
      at (no u) (no w) = refl

  pub column_solves : (m c : ℕ) (L : ℕ → ℕ → F) → c < m → Units o e m c L → ((r : ℕ) → c ≤ r → r < m → L r c ≡ o)
      → (r : ℕ) → r < m → dot o ◌⊕◌ ◌⊗◌ m (L r) (column c (λ k. L k c)) ≡ o
  column_solves m c L lc u z r lr =
      let x = column c (λ k. L k c) in
      let below : (j : ℕ) → c < j → L r j ⊗ x j ≡ o = λ j l. ap (λ w. L r j ⊗ w) (column_below c _ j l) ∙ mul-zero K (L r j) in
      let side : (j : ℕ) → j < c → j ≢ r → L r j ⊗ x j ≡ o = λ j l n. ap (λ w. w ⊗ x j) (u.off r j lr l (λ v. n (sym v))) ∙ zero-mul K (x j) in
      elim (dec_lt r c) [
        | yes h ↦ sum_two m r c (λ j. L r j ⊗ x j) lr lc (omega arith)
            (λ j k n w. elim (dec_lt j c) [ yes t ↦ side j t n | no t ↦ below j (omega arith) ])
            ∙ ap₂ (λ y w. L r r ⊗ y ⊕ L r c ⊗ w) (column_above c _ r h) (column_at c _)
            ∙ rw (u.diag r h, one-mul K (neg (L r c)), mul-one K (L r c)) (neg_add K (L r c))
        | no h ↦ sum_zeros K m _ (λ j k. elim (dec_lt j c) [
          | yes t ↦ side j t (omega arith)
          | no t ↦ elim (ℕ_discrete j c) [
            | yes w ↦ rw (w, z r (omega arith) lr) (zero-mul K (x c))
            | no w ↦ below j (omega arith)
          ]
        ])
      ]

  -- zeros stay zeros
  pub scaled_zeros : (m i : ℕ) (k : F) → Scaled ◌⊗◌ m i k (λ r. o) (λ r. o)
  scaled_zeros m i k = record { here = sym (mul-zero K k); rest = λ r l n. refl }

  pub cleared_zeros : (m c : ℕ) (f : ℕ → F) → Cleared ◌⊕◌ ◌⊗◌ m c f (λ r. o) (λ r. o)
  cleared_zeros m c f = record { here = refl; rest = λ r l n. sym (ap (λ z. o ⊕ z) (mul-zero K (f r)) ∙ add-zero K o) }

  pub added_zeros : (m i j : ℕ) (k : F) → Added ◌⊕◌ ◌⊗◌ m i j k (λ r. o) (λ r. o)
  added_zeros m i j k = record { here = sym (ap (λ z. o ⊕ z) (mul-zero K k) ∙ add-zero K o); rest = λ r l n. refl }

  -- the columns that are done stay so
  module _ (m c : ℕ) (A B : ℕ → ℕ → F) (u : Units o e m c A) where
    pub units_swap : (p : ℕ) → c ≤ p → p < m → Columns m (Swapped m c p) A B → Units o e m c B
    units_swap p h l a = record {
      diag = λ k d. (a k (omega arith)).rest k (omega arith) (omega arith) (omega arith) ∙ u.diag k d;
      off = λ r k lr lk n. elim (ℕ_discrete r c) [
        | yes t ↦ rw t ((a k (omega arith)).here ∙ u.off p k l lk (omega arith))
        | no t ↦ elim (ℕ_discrete r p) [
          | yes s ↦ rw s ((a k (omega arith)).there ∙ u.off c k (omega arith) lk (omega arith))
          | no s ↦ (a k (omega arith)).rest r lr t s ∙ u.off r k lr lk n
        ]
      ];
    }

    pub units_scale : (k : F) → c < m → Columns m (Scaled ◌⊗◌ m c k) A B → Units o e m c B
    units_scale k l a = record {
      diag = λ j d. (a j (omega arith)).rest j (omega arith) (omega arith) ∙ u.diag j d;
      off = λ r j lr lj n. elim (ℕ_discrete r c) [
        | yes t ↦ rw t ((a j (omega arith)).here ∙ ap (λ z. k ⊗ z) (u.off c j l lj (omega arith)) ∙ mul-zero K k)
        | no t ↦ (a j (omega arith)).rest r lr t ∙ u.off r j lr lj n
      ];
    }

    -- a row j that has come to its turn, added to any other
    pub units_add : (i j : ℕ) (k : F) → c ≤ j → j < m → Columns m (Added ◌⊕◌ ◌⊗◌ m i j k) A B → Units o e m c B
    units_add i j k h lj a =
        let kept : (r n : ℕ) → r < m → n < c → B r n ≡ A r n = λ r n lr ln. elim (ℕ_discrete r i) [
          | yes t ↦ rw t ((a n (omega arith)).here ∙ ap (λ z. A i n ⊕ k ⊗ z) (u.off j n lj ln (omega arith)) ∙ rw (mul-zero K k) (add-zero K (A i n)))
          | no t ↦ (a n (omega arith)).rest r lr t
        ] in
        record { diag = λ n d. kept n n (omega arith) d ∙ u.diag n d; off = λ r n lr ln v. kept r n lr ln ∙ u.off r n lr ln v }

    -- one more column
    pub units_clear : (f : ℕ → F) → c < m → Columns m (Cleared ◌⊕◌ ◌⊗◌ m c f) A B → A c c ≡ e
        → ((r : ℕ) → r < m → r ≢ c → f r ≡ neg (A r c)) → Units o e m (suc c) B
    units_clear f l a one fs =
        let kept : (r k : ℕ) → r < m → k < c → r ≢ c → B r k ≡ A r k = λ r k lr lk n.
        (a k (omega arith)).rest r lr n ∙ ap (λ z. A r k ⊕ f r ⊗ z) (u.off c k l lk (omega arith)) ∙ rw (mul-zero K (f r)) (add-zero K (A r k)) in
        record {
          diag = λ k d. elim (ℕ_discrete k c) [
            | yes t ↦ rw t ((a c l).here ∙ one)
            | no t ↦ kept k k (omega arith) (omega arith) t ∙ u.diag k (omega arith)
          ];
          off = λ r k lr lk n. elim (ℕ_discrete k c) [
            | yes t ↦ rw t ((a c l).rest r lr (omega arith) ∙ rw (fs r lr (omega arith), one, mul-one K (neg (A r c))) (add_neg K (A r c)))
            | no t ↦ elim (ℕ_discrete r c) [
              | yes s ↦ rw s ((a k (omega arith)).here ∙ u.off c k l (omega arith) (omega arith))
              | no s ↦ kept r k lr (omega arith) s ∙ u.off r k lr (omega arith) n
            ]
          ];
        }

  module _ (m : ℕ) where
    swap_solves : (i j : ℕ) → i < m → j < m → (A B : ℕ → ℕ → F) (s t : ℕ → F) → Columns m (Swapped m i j) A B → Swapped m i j s t
        → (x : ℕ → F) → Solves o ◌⊕◌ ◌⊗◌ m A x s → Solves o ◌⊕◌ ◌⊗◌ m B x t
    swap_solves i j li lj A B s t a b x p =
        let P : ℕ → Type 0 = λ r. dot o ◌⊕◌ ◌⊗◌ m (B r) x ≡ t r in
        split_at m i P (dot_congr m (B i) (A j) x (λ c k. (a c k).here) ∙ p j lj ∙ sym b.here)
        (λ r l u. split_at_with m j P (λ r. r ≢ i)
        (dot_congr m (B j) (A i) x (λ c k. (a c k).there) ∙ p i li ∙ sym b.there)
        (λ r l v u. dot_congr m (B r) (A r) x (λ c k. (a c k).rest r l u v) ∙ p r l ∙ sym (b.rest r l u v)) r l u)

    pub swap_alike : (i j : ℕ) → i < m → j < m → (A B : ℕ → ℕ → F) (s t : ℕ → F) → Columns m (Swapped m i j) A B → Swapped m i j s t
        → (x : ℕ → F) → (Solves o ◌⊕◌ ◌⊗◌ m A x s ↔ Solves o ◌⊕◌ ◌⊗◌ m B x t)
    swap_alike i j li lj A B s t a b x = (
      swap_solves i j li lj A B s t a b x,
      swap_solves i j li lj B A t s (λ c l. swapped_back m i j (λ r. A r c) (λ r. B r c) (a c l)) (swapped_back m i j s t b) x,
    )

    pub scale_alike : (i : ℕ) (k : F) → i < m → k ≢ o → (A B : ℕ → ℕ → F) (s t : ℕ → F) → Columns m (Scaled ◌⊗◌ m i k) A B → Scaled ◌⊗◌ m i k s t
        → (x : ℕ → F) → (Solves o ◌⊕◌ ◌⊗◌ m A x s ↔ Solves o ◌⊕◌ ◌⊗◌ m B x t)
    scale_alike i k li nk A B s t a b x =
        let u = dot_scale m k (A i) (B i) x (λ c l. (a c l).here) in
        let P : ℕ → Type 0 = λ r. dot o ◌⊕◌ ◌⊗◌ m (A r) x ≡ s r in
        let Q : ℕ → Type 0 = λ r. dot o ◌⊕◌ ◌⊗◌ m (B r) x ≡ t r in (
          λ p. split_at m i Q (u ∙ ap (λ z. k ⊗ z) (p i li) ∙ sym b.here)
              (λ r l n. dot_congr m (B r) (A r) x (λ c h. (a c h).rest r l n) ∙ p r l ∙ sym (b.rest r l n)),
          λ p. split_at m i P (mul_cancel k _ _ nk (sym u ∙ p i li ∙ b.here))
              (λ r l n. sym (dot_congr m (B r) (A r) x (λ c h. (a c h).rest r l n)) ∙ p r l ∙ b.rest r l n),
        )

    -- f r times the row c to each other row r
    pub clear_alike : (c : ℕ) (f : ℕ → F) → c < m → (A B : ℕ → ℕ → F) (s t : ℕ → F) → Columns m (Cleared ◌⊕◌ ◌⊗◌ m c f) A B → Cleared ◌⊕◌ ◌⊗◌ m c f s t
        → (x : ℕ → F) → (Solves o ◌⊕◌ ◌⊗◌ m A x s ↔ Solves o ◌⊕◌ ◌⊗◌ m B x t)
    clear_alike c f lc A B s t a b x =
        let u = dot_congr m (B c) (A c) x (λ k l. (a k l).here) in
        let v : (r : ℕ) → r < m → r ≢ c → dot o ◌⊕◌ ◌⊗◌ m (B r) x ≡ dot o ◌⊕◌ ◌⊗◌ m (A r) x ⊕ f r ⊗ dot o ◌⊕◌ ◌⊗◌ m (A c) x = λ r l n.
        dot_add m (f r) (A r) (A c) (B r) x (λ k h. (a k h).rest r l n) in
        let P : ℕ → Type 0 = λ r. dot o ◌⊕◌ ◌⊗◌ m (A r) x ≡ s r in
        let Q : ℕ → Type 0 = λ r. dot o ◌⊕◌ ◌⊗◌ m (B r) x ≡ t r in (
          λ p. split_at m c Q (u ∙ p c lc ∙ sym b.here)
              (λ r l n. v r l n ∙ ap₂ (λ y z. y ⊕ f r ⊗ z) (p r l) (p c lc) ∙ sym (b.rest r l n)),
          λ p. let w = sym u ∙ p c lc ∙ b.here in
              split_at m c P w
              (λ r l n. add_cancel_right _ _ _ _ (ap (λ z. f r ⊗ z) w) (sym (v r l n) ∙ p r l ∙ b.rest r l n)),
        )

    -- k times the row j to the row i
    pub add_alike : (i j : ℕ) (k : F) → j < m → i ≢ j → (A B : ℕ → ℕ → F) (s t : ℕ → F) → Columns m (Added ◌⊕◌ ◌⊗◌ m i j k) A B → Added ◌⊕◌ ◌⊗◌ m i j k s t
        → (x : ℕ → F) → (Solves o ◌⊕◌ ◌⊗◌ m A x s ↔ Solves o ◌⊕◌ ◌⊗◌ m B x t)
    add_alike i j k lj n A B s t a b =
        clear_alike j (only i k) lj A B s t (λ c l. added_cleared m i j k lj n (λ r. A r c) (λ r. B r c) (a c l)) (added_cleared m i j k lj n s t b)

    -- what keeps the solutions of A x = 0 keeps a trivial kernel
    pub kernel_kept : (A B : ℕ → ℕ → F) → ((x : ℕ → F) → (Solves o ◌⊕◌ ◌⊗◌ m A x (λ r. o) ↔ Solves o ◌⊕◌ ◌⊗◌ m B x (λ r. o)))
        → Kernel o ◌⊕◌ ◌⊗◌ m A → Kernel o ◌⊕◌ ◌⊗◌ m B
    kernel_kept A B q h x z = h x ((q x).1 z)

    -- a column with no pivot
    pub pivot : (A : ℕ → ℕ → F) → Kernel o ◌⊕◌ ◌⊗◌ m A → (c : ℕ) → c < m → Units o e m c A → ((r : ℕ) → c ≤ r → r < m → A r c ≡ o) → ⊥
    pivot A h c l u z =
        K.one_not_zero (sym (column_at c (λ k. A k c)) ∙ h (column c (λ k. A k c)) (column_solves m c A l u z) c l)
