use Rattle.std.proofs.Common.{◌≡◌, ℕ, ◌+◌, ◌-◌, ◌*◌, ◌<◌, ◌≤◌, List, [], ◌∷◌, ◌++◌, Option, Some, length, get_or, take, drop, sym, ap, ◌∙◌, subst, arith, length-take-le, mul-le-mul, rules}
use borrow.Rule.Slice.PartMut.{put_mid}
use Rattle.std.specs.Iterator.{Yields}
use Rattle.std.specs.List.{enumerate_from, zip}
use Rattle.std.proofs.lemmas.Iterator.{YieldsList, YieldsList-from_slice, YieldsList-from_zip}
use Rattle.std.proofs.lemmas.Iterator.Consumers.{YieldsList-turn, YieldsList-from_enumerate}
use Rattle.std.proofs.lemmas.List.{get_or_default, length_push}
use Rattle.std.proofs.lemmas.List.FromFn.{length-enumerate_from, get_or-enumerate_from}
use Rattle.std.proofs.lemmas.Slice.Zip.{length-zip, get_or-zip}
use Rattle.field.proofs.Parts.{part_length}
use Rattle.field.proofs.Rows.{row_fits}
use Rattle.piece.specs.Pieces.{entry}
use Rattle.piece.specs.Schemes.{as_settings}
use Rattle.piece.specs.declared.Settings.{Settings}
use Rattle.piece.proofs.Candidates.{SystemTo, system_first, system_next}
use Rattle.piece.proofs.columns.Guess.lay_system.Given as given
use Rattle.piece.proofs.columns.Guess.lay_system.Goals as goal
use Rattle.piece.proofs.columns.Guess.lay_system.Goals.{In-Some}

-- at the turn i, r is i, x and y stand at r in the two lists, and the grid has a row behind the row r
record Turn (xs ys : List ℕ) (m : ℕ) (grid : List ℕ) (i r x y : ℕ) : Type 0 where
  index : r ≡ i
  within : r < m - 1
  behind : r + 1 < m
  room : (r + 1) * (m + 1) + (m + 1) ≤ length grid
  small : (r + 1) * (m + 1) + (m + 1) ≤ 272
  first : x ≡ get_or xs r 0
  second : y ≡ get_or ys r 0

turn : {S A : Type 0} {steps : S → Option A → S → Type 0} {v : A → ℕ × (ℕ × ℕ)} {s : S} (xs ys : List ℕ) → YieldsList steps v s (enumerate_from 0 (zip xs ys))
    → (m : ℕ) (grid : List ℕ) → m ≤ 16 → length xs ≡ m - 1 → length grid ≡ m * (m + 1)
    → (before : List A) (t : S) → Yields steps s before t → (r : Option A) (u : S) (x : A) → r ≡ Some x → steps t r u
    → Turn xs ys m grid (length before) (v x).0 (v x).1.0 (v x).1.1
turn {v = v} xs ys e m grid few many size before t y r u x is st =
    let i : ℕ = length before in
    let h = YieldsList-turn e before t y r u x is st in
    let l : i < length (zip xs ys) = omega (arith, h.0, length-enumerate_from 0 (zip xs ys)) in
    let in_xs : i < length xs = omega (arith, l, length-zip xs ys) in
    let in_ys : i < length ys = omega (arith, l, length-zip xs ys) in
    let at = h.1 ∙ get_or-enumerate_from 0 (zip xs ys) i (v x) l in
    let pair = get_or-zip xs ys i (v x).1 in_xs in_ys in
    let index : (v x).0 ≡ i = ap (λ (p : ℕ × (ℕ × ℕ)). p.0) at ∙ omega arith in
    let behind : (v x).0 + 1 < m = omega arith in
    let fits = row_fits ((v x).0 + 1) m (m + 1) behind in
    let wide : m + 1 ≤ 17 = omega arith in
    let whole : m * (m + 1) ≤ 16 * 17 = mul-le-mul few wide in
    record {
      index = index;
      within = omega arith;
      behind = behind;
      room = omega arith;
      small = omega arith;
      first = ap (λ (p : ℕ × (ℕ × ℕ)). p.1.0) at ∙ ap (λ (p : ℕ × ℕ). p.0) pair ∙ get_or_default xs i (v x).1.0 0 in_xs ∙ ap (λ (n : ℕ). get_or xs n 0) (sym index);
      second = ap (λ (p : ℕ × (ℕ × ℕ)). p.1.1) at ∙ ap (λ (p : ℕ × ℕ). p.1) pair ∙ get_or_default ys i (v x).1.1 0 in_ys ∙ ap (λ (n : ℕ). get_or ys n 0) (sym index);
    }

this_turn : (g : given.Over) (c : In-Some g)
    → Turn c.args.self.now.numbers.now c.args.self.now.symbols.now c.args.self.now.settings.m c.loop-r.grid (length c.loop-r.yielded) c.in-Some.r c.in-Some.number.now c.in-Some.symbol.now
this_turn g c =
    let xs : List ℕ = c.args.self.now.numbers.now in
    let ys : List ℕ = c.args.self.now.symbols.now in
    let m : ℕ = c.args.self.now.settings.m in
    let size : length c.loop-r.grid ≡ m * (m + 1) = omega arith in
    let pairs = YieldsList-from_enumerate {s = c.into_iter-r-iterator.result} (YieldsList-from_zip (YieldsList-from_slice xs cc) (YieldsList-from_slice ys cc)) cc in
    turn xs ys pairs m c.loop-r.grid c.requires.asked.seen.lawful.needed c.requires.asked.numbered size c.loop-r.yielded c.loop-r.r-iterator c.loop-r.yielded_by _ c.next.new.self _ c.in-Some.is c.next.ensures.steps

pub loop-r-init : goal.loop-r-init
loop-r-init g c =
    let m : ℕ = c.args.self.now.settings.m in
    let h = row_fits 0 m (m + 1) c.requires.asked.seen.lawful.some in
    let ends : m + 1 ≤ length c.args.grid.now = omega arith in
    let size : length (take (m + 1) c.args.grid.now) ≡ m + 1 = length-take-le (m + 1) c.args.grid.now ends in
    let last : length (take (m + 1) c.args.grid.now) - 1 ≡ m = omega arith in
    system_first g.met.F.Field.laws c.args.self.now.settings c.args.self.now.numbers.now c.args.self.now.symbols.now c.args.self.now.place c.args.self.now.value c.requires.asked.place c.requires.asked.value
    c.read_place.new.row (drop (m + 1) c.args.grid.now) (c.read_place.auto.row ∙ size)
    c.read_place.ensures.one (λ j l n. c.read_place.ensures.zeros j (omega arith) n)
    (ap (λ (n : ℕ). get_or c.read_place.new.row n 0) (sym last) ∙ c.read_place.ensures.value)

pub overflow_mul-from : goal.overflow_mul-from
overflow_mul-from g c = let t = this_turn g (goal.at.overflow_mul-from g c).In-Some in search rules

pub overflow_add-from-in-loop-r : goal.overflow_add-from-in-loop-r
overflow_add-from-in-loop-r g c = let t = this_turn g (goal.at.overflow_add-from-in-loop-r g c).In-Some in search rules

pub offset_bounds-grid-from : goal.offset_bounds-grid-from
offset_bounds-grid-from g c = let t = this_turn g (goal.at.offset_bounds-grid-from g c).In-Some in search rules

pub slice_bounds-read_piece-end : goal.slice_bounds-read_piece-end
slice_bounds-read_piece-end g c =
    let t = this_turn g (goal.at.slice_bounds-read_piece-end g c).In-Some in
    search rules

pub read_piece-requires : goal.read_piece-requires
read_piece-requires g c =
    let t = this_turn g (goal.at.read_piece-requires g c).In-Some in
    let m : ℕ = c.args.self.now.settings.m in
    let r : ℕ = c.in-Some.r in
    let same : as_settings c.of-scheme.result ≡ c.args.self.now.settings = c.of-scheme.ensures in
    record {
      least = subst (λ (n : ℕ). 1 ≤ n) (sym t.first) (c.requires.asked.seen.least r t.within);
      most = subst (λ (n : ℕ). n ≤ c.of-scheme.result.n) (sym t.first) (subst (λ (S : Settings). get_or c.args.self.now.numbers.now r 0 ≤ S.n) (sym same) (c.requires.asked.seen.most r t.within));
      code = subst (λ (n : ℕ). n < g.F.Field.ops.order) (sym t.second) (c.requires.asked.seen.codes r t.within);
      places = part_length c.loop-r.grid ((r + 1) * (m + 1)) (m + 1) t.room ∙ ap (λ (S : Settings). S.m + 1) (sym same);
    }

pub loop-r-preserved : goal.loop-r-preserved
loop-r-preserved g c =
    let t = this_turn g (goal.at.loop-r-preserved g c).In-Some in
    let S : Settings = c.args.self.now.settings in
    let same : as_settings c.of-scheme.result ≡ S = c.of-scheme.ensures in
    let m : ℕ = S.m in
    let w : ℕ = m + 1 in
    let xs : List ℕ = c.args.self.now.numbers.now in
    let ys : List ℕ = c.args.self.now.symbols.now in
    let size : length c.loop-r.grid ≡ m * w = omega arith in
    let r : ℕ = c.in-Some.r in
    let K = g.F.Field.ops in
    let To : ℕ → List ℕ → Type 0 = λ n rows. SystemTo K S xs ys c.args.self.now.place c.args.self.now.value n rows in
    let entries : (j : ℕ) → j < m → get_or c.read_piece.new.row j 0 ≡ entry K S (get_or xs r 0) j = λ j l. c.read_piece.ensures.entries j (subst (λ (T : Settings). j < T.m) (sym same) l) ∙ ap (λ (T : Settings). entry K T c.in-Some.number.now j) same ∙ ap (λ (n : ℕ). entry K S n j) t.first in
    let before : To r c.loop-r.grid = subst (λ (n : ℕ). To n c.loop-r.grid) (sym t.index) c.loop-r.invariant in
    let next : r + 1 ≡ length (c.loop-r.yielded ++ _ ∷ []) = ap (λ (n : ℕ). n + 1) t.index ∙ sym (length_push c.loop-r.yielded _) in
    subst (λ (n : ℕ). To n (put_mid ((r + 1) * w) ((r + 1) * w + w - (r + 1) * w) c.loop-r.grid c.read_piece.new.row)) next
    (system_next g.met.F.Field.laws S xs ys c.args.self.now.place c.args.self.now.value c.requires.asked.place c.requires.asked.value
    r c.loop-r.grid c.read_piece.new.row before size t.behind (c.read_piece.auto.row ∙ part_length c.loop-r.grid ((r + 1) * w) w t.room)
    c.read_piece.ensures.codes entries (ap (λ (T : Settings). get_or c.read_piece.new.row T.m 0) (sym same) ∙ c.read_piece.ensures.symbol ∙ t.second))
