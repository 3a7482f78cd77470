use Rattle.std.proofs.Common.{◌≡◌, ℕ, List, Some, None, Option, map, length, vec_items, string_bytes, refl, ap, subst, arith}
use Rattle.words.specs.declared.scan.Scan.{Scan}
use Rattle.words.specs.Scans.{Goes, Hears}
use Rattle.words.proofs.Scanning.{goes_none, goes_more}
use Rattle.words.proofs.scan.read.Goals as goal

pub loop-word-init : goal.loop-word-init
loop-word-init g c =
    let none : length c.new-names.result.items ≡ 0 = ap length c.new-names.ensures.items in
    (goes_none g.O.Options.unset g.O.Options.sets c.args.words.now _ _ c.start-scan.ensures.value (ap (map string_bytes) c.new-names.ensures.items), omega (arith, none))

pub loop-word-preserved-in-Some : goal.loop-word-preserved-in-Some
loop-word-preserved-in-Some g c =
    let s = c.loop-word.scan in
    let w = c.word-item.result in
    let t = c.in-Some.more in
    let ns = map string_bytes (vec_items c.loop-word.names) in
    let hears : Hears g.O.Options.sets (string_bytes w) s (Some t) = subst (λ (h : Option (Scan g.row.O.Denot)). Hears g.O.Options.sets (string_bytes w) s h) c.in-Some.is (subst (λ (b : List ℕ). Hears g.O.Options.sets b s c.in_ok-more.field-0) c.as_str.ensures.value c.in_ok-more.ensures.hears) in
    (goes_more g.O.Options.unset g.O.Options.sets c.args.words.now c.loop-word.word-index s ns w (Some t) t ns c.loop-word.invariant.0 c.word-item.is hears (refl, refl), c.loop-word.invariant.1)

pub loop-word-preserved : goal.loop-word-preserved
loop-word-preserved g c =
    let s = c.loop-word.scan in
    let w = c.word-item.result in
    let ms = map string_bytes (vec_items c.loop-word.names) in
    let ns = map string_bytes (vec_items c.note.new.names) in
    let hears : Hears g.O.Options.sets (string_bytes w) s None = subst (λ (h : Option (Scan g.row.O.Denot)). Hears g.O.Options.sets (string_bytes w) s h) c.in_default.is (subst (λ (b : List ℕ). Hears g.O.Options.sets b s c.in_ok-more.field-0) c.as_str.ensures.value c.in_ok-more.ensures.hears) in
    (goes_more g.O.Options.unset g.O.Options.sets c.args.words.now c.loop-word.word-index s ms w None s ns c.loop-word.invariant.0 c.word-item.is hears (refl, c.in_ok-note.ensures.noted), c.in_ok-note.ensures.few)

pub returns : goal.returns
returns g c =
    let ws = c.args.words.now in
    let all : c.loop-word.word-index ≡ length ws = omega arith in
    record {
      few = c.loop-word.invariant.1;
      says = record {
        last = c.loop-word.scan;
        goes = subst (λ (n : ℕ). Goes g.O.Options.unset g.O.Options.sets ws n c.loop-word.scan (map string_bytes (vec_items c.loop-word.names))) all c.loop-word.invariant.0;
        whole = c.in_default-next.not-Value;
        options = refl;
      };
    }
