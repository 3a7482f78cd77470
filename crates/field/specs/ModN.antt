-- Arithmetic modulo m. Assumes nothing.
use Rattle.std.specs.Prelude.{◌≡◌, ℕ, ◌+◌, ◌*◌, ◌/◌, ◌%◌}
use Rattle.std.proofs.Common.{sym, ap, ◌∙◌, add-mul, mul_assoc, mul_comm, add_comm}
use Rattle.std.proofs.Math.Nat.{div-add-mod, add-mul-mod_self_left}

pub mul_mod_l : (a b m : ℕ) → (a % m * b) % m ≡ (a * b) % m
mul_mod_l a b m =
    sym (ap (λ (x : ℕ). (x * b) % m) (sym (div-add-mod a m) ∙ add_comm (m * (a / m)) (a % m))
    ∙ ap (λ (x : ℕ). x % m) (add-mul (a % m) (m * (a / m)) b ∙ ap (λ (x : ℕ). a % m * b + x) (mul_assoc m (a / m) b))
    ∙ add-mul-mod_self_left (a % m * b) m (a / m * b))

pub mul_mod_r : (a b m : ℕ) → (a * (b % m)) % m ≡ (a * b) % m
mul_mod_r a b m =
    ap (λ (x : ℕ). x % m) (mul_comm a (b % m)) ∙ mul_mod_l b a m ∙ ap (λ (x : ℕ). x % m) (mul_comm b a)
