use Rattle.std.proofs.Common.{◌≡◌, ℕ, ◌+◌, ◌*◌, ◌<◌, ◌≤◌, min, List, length, get_or, take, ap, ◌∙◌, inl, inr, le-mul_of_pos_right, arith, rules, below_more}
use Rattle.std.proofs.lemmas.List.Sums.{fold_more}
use Rattle.std.proofs.lemmas.List.{take_all}
use Rattle.std.proofs.lemmas.Bool.{cases_lt}
use Rattle.words.specs.Numeral.{Numeral, worth, value_of}
use Rattle.words.proofs.code.number.Goals as goal

-- a value that is kept at m from some step on ends where one that is cut to m at the end does
kept : (n b d m : ℕ) → 1 ≤ b → min (min n m * b + d) m ≡ min (n * b + d) m
kept n b d m h =
    let p : n ≤ n * b = le-mul_of_pos_right n (omega arith) in
    let q : m ≤ m * b = le-mul_of_pos_right m (omega arith) in
    elim (cases_lt n m) [ inl lt ↦ (let e : min n m ≡ n = omega arith in rw e) | inr ge ↦ (let e : min n m ≡ m = omega arith in rw e (omega (arith, p, q))) ]

-- the value after one more digit
step : (b m : ℕ) (ds : List ℕ) (i v d r : ℕ) → 1 ≤ b → i < length ds → v ≡ min (value_of b (take i ds)) m → d ≡ worth (get_or ds i 0) → r ≡ min (v * b + d) m → r ≡ min (value_of b (take (i + 1) ds)) m
step b m ds i v d r one lt ev ed er =
    let more : value_of b (take (i + 1) ds) ≡ value_of b (take i ds) * b + worth (get_or ds i 0) = fold_more (λ n c. n * b + worth c) 0 ds i 0 lt in
    er ∙ (rw (ev, ed, more) (kept (value_of b (take i ds)) b (worth (get_or ds i 0)) m one))

-- at the end of the loop every character is taken
all : (b m : ℕ) (ds : List ℕ) (i v : ℕ) → i ≡ length ds → v ≡ min (value_of b (take i ds)) m → v ≡ min (value_of b ds) m
all b m ds i v e h =
    let t : take i ds ≡ ds = take_all i ds (omega arith) in
    rw t at h

numeral : (b : ℕ) (ds : List ℕ) (i : ℕ) → 0 < length ds → i ≡ length ds → ((k : ℕ) → k < i → worth (get_or ds k 0) < b) → Numeral b ds
numeral b ds i some e each = record { some = some; each = λ k h. each k (omega arith) }

pub loop-c-preserved : goal.loop-c-preserved
loop-c-preserved c = (
  step c.args.base (c.args.most + 1) c.args.digits.now c.loop-c.c-index c.loop-c.value c.in-Some.d c.min-value.result c.requires.least c.loop-c-test.true c.loop-c.invariant.0 c.in-Some.ensures.cases.0 (c.min-value.ensures ∙ ap (λ x. min (c.loop-c.value * c.args.base + c.in-Some.d) (x + 1)) c.from-limit.ensures),
  below_more _ _ c.loop-c.invariant.1 (omega (arith, c.in-Some.ensures.cases.0, c.in-Some.ensures.cases.1)),
)

pub returns-then-value-limit : goal.returns-then-value-limit
returns-then-value-limit c =
    let e : c.loop-c.c-index ≡ length c.args.digits.now = omega arith in
    let v : c.loop-c.value ≡ min (value_of c.args.base c.args.digits.now) (c.args.most + 1) = all c.args.base (c.args.most + 1) c.args.digits.now c.loop-c.c-index c.loop-c.value e c.loop-c.invariant.0 in
    let s : 0 < length c.args.digits.now = search rules in
    record { reading = (numeral _ _ _ s e c.loop-c.invariant.1, omega (arith, v)) }

pub returns : goal.returns
returns c =
    let e : c.loop-c.c-index ≡ length c.args.digits.now = omega arith in
    let v : c.loop-c.value ≡ min (value_of c.args.base c.args.digits.now) (c.args.most + 1) = all c.args.base (c.args.most + 1) c.args.digits.now c.loop-c.c-index c.loop-c.value e c.loop-c.invariant.0 in
    let s : 0 < length c.args.digits.now = search rules in
    record { reading = (numeral _ _ _ s e c.loop-c.invariant.1, omega (arith, v), omega (arith, v)) }
