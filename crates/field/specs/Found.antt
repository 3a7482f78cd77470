-- The number that a test finds, and inverses found so. Assumes nothing.
use Rattle.std.specs.Prelude.{◌≡◌, ℕ, zero, suc, ◌<◌, Bool, true, false, cond, T, ◌≢◌, List, ◌==◌, nat_eq, nat_lt, slice_index, refl}
use Rattle.std.proofs.Common.{sym, ap, ◌∙◌, subst, not-suc-le-zero, arith, eqb→eq, ltb→lt}
use Rattle.std.proofs.Math.Decide.{ℕ_discrete}
use Rattle.field.specs.Laws.{Ops, FieldLaws}
use Rattle.field.specs.Search.{found}
use Rattle.field.specs.Every.{both, both_left, both_right}

below_step : (b : Bool) (n f : ℕ) → f < suc n → cond b n f < suc n
below_step true n f h = omega arith
below_step false n f h = h

pub found_below : (test : ℕ → Bool) (n : ℕ) → found test (suc n) < suc n
unfolding found
found_below test zero = below_step (test 0) 0 0 (omega arith)
found_below test (suc n) =
    below_step (test (suc n)) (suc n) (found test (suc n)) (let h = found_below test n in omega arith)

at_step : (test : ℕ → Bool) (n f : ℕ) (b : Bool) → test n ≡ b → (T (test f)) → T (test (cond b n f))
at_step test n f true e h = subst T (sym e) tt
at_step test n f false e h = h

at_last : (test : ℕ → Bool) (n f : ℕ) → T (test n) → T (test (cond (test n) n f))
at_last test n f h = go (test n) refl h
  where
    go : (b : Bool) → test n ≡ b → T b → T (test (cond b n f))
    go true e t = subst T (sym e) tt
    go false e t = absurd t

-- where some number below n passes, the one found does
pub found_at : (test : ℕ → Bool) (n k : ℕ) → k < n → T (test k) → T (test (found test n))
unfolding found
found_at test zero k h t = absurd (not-suc-le-zero h)
found_at test (suc n) k h t =
    elim (ℕ_discrete k n) [
      | yes e ↦ at_last test n (found test n) (subst (λ (m : ℕ). T (test m)) e t)
      | no ne ↦ at_step test n (found test n) (test n) refl (found_at test n k (omega arith) t)
    ]

-- each entry of the table but that of 0 is a code below q whose product with its place is 1
abbrev pub rule : (ℕ → ℕ → ℕ) → ℕ → List ℕ → ℕ → Bool
rule mul q table zero = true
rule mul q table (suc k) = both (nat_lt (slice_index table (suc k)) q) (mul (suc k) (slice_index table (suc k)) == 1)

pub rule_below : (mul : ℕ → ℕ → ℕ) (q : ℕ) (table : List ℕ) (a : ℕ) → a ≢ 0 → T (rule mul q table a) → slice_index table a < q
rule_below mul q table zero n t = absurd (n refl)
rule_below mul q table (suc k) n t = ltb→lt _ q (both_left _ (mul (suc k) (slice_index table (suc k)) == 1) t)

pub rule_one : (mul : ℕ → ℕ → ℕ) (q : ℕ) (table : List ℕ) (a : ℕ) → a ≢ 0 → T (rule mul q table a) → T (mul a (slice_index table a) == 1)
rule_one mul q table zero n t = absurd (n refl)
rule_one mul q table (suc k) n t = both_right (nat_lt (slice_index table (suc k)) q) _ t

-- so the code found for a place is an inverse
pub found_inverse : (mul : ℕ → ℕ → ℕ) (q : ℕ) (table : List ℕ) (a : ℕ) → a ≢ 0 → T (rule mul q table a)
    → mul a (found (λ b. nat_eq (mul a b) 1) q) ≡ 1
found_inverse mul q table a n t =
    eqb→eq (mul a (found (λ b. nat_eq (mul a b) 1) q)) 1
    (found_at (λ b. nat_eq (mul a b) 1) q (slice_index table a) (rule_below mul q table a n t) (rule_one mul q table a n t))

-- an element has one inverse
pub one_inverse : {K : Ops} → FieldLaws K → (a b c : ℕ) → a < K.order → b < K.order → c < K.order → K.mul a b ≡ 1 → K.mul a c ≡ 1 → b ≡ c
one_inverse {K} L a b c ha hb hc eb ec =
    sym (L.mul-one b hb) ∙ ap (K.mul b) (sym ec) ∙ sym (L.mul_assoc b a c hb ha hc)
    ∙ ap (λ (x : ℕ). K.mul x c) (L.mul_comm b a hb ha ∙ eb) ∙ L.mul_comm 1 c L.one_below hc ∙ L.mul-one c hc

-- and the table has it
pub table_inverse : {K : Ops} → FieldLaws K → (table : List ℕ) (a : ℕ) → a < K.order → a ≢ 0 → T (rule K.mul K.order table a)
    → slice_index table a ≡ K.inv a
table_inverse {K} L table a h n t =
    one_inverse L a (slice_index table a) (K.inv a) h (rule_below K.mul K.order table a n t) (L.inv_below a h)
    (eqb→eq _ 1 (rule_one K.mul K.order table a n t)) (L.mul_inv a h n)
