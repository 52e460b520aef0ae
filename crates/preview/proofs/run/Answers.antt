-- `preview::run` meets its contract. The loop's invariant: the preview carries the section after the words passed, what is stored are the
-- results and the remainders of the front of the section's answers, and what it gives over the words left is the rest.
use mathlib.Core.Path.{◌≡◌, refl, sym, ap, ap₂, ◌∙◌, subst}
use mathlib.Core.Bool.{true}
use mathlib.Core.List.{List, [], ◌∷◌, ◌++◌, map, append-nil}
use Prim.Native.Nat.{ℕ, suc, ◌<◌}
use native.Mathlib.Omega.{arith}
use native.Mathlib.Numerals.{add-one}
use lib.Dec.{T}
use lib.IntN.{ℤ, pos}
use lib.ListN.{length, drop, get_or, set, length-append, drop_of_length-le}
use lib.Seq.{append_snoc}
use lib.Ieee.{binary64, to_signed, in_signed}
use lib.Ieee.Casts.{to_signed_in}
use borrow.Author.Rules.{rules}
use mir.Syntax.{w32}
use mir.Val.{to_z, of_z}
use mir.Facts.{to_z-of_z}
use Rattle.integers.proofs.Order.{both_true}
use Rattle.integers.proofs.Machine.{reads_back}
use Rattle.words.specs.Words.{is_word}
use Rattle.floats.specs.Whole.{float}
use Rattle.section.specs.declared.Section.{Section}
use Rattle.section.specs.declared.Stepped.{Stepped}
use Rattle.section.specs.Step.{cleared_section, stepped, answers_over, result_of, remainder_of}
use Rattle.section.proofs.Ready.{HoldsWords, cleared_ready, ready_stays}
use Rattle.preview.specs.declared.PreviewStep.{PreviewStep}
use Rattle.preview.specs.Preview.{are_words, filled_front, buffers_of}
use Rattle.preview.specs.Carried.{carried, carried_step, section_in, StepAsks}
use Rattle.preview.proofs.Carry.{carried_back, may_step, result_back, remainder_back}
use Rattle.preview.proofs.Lists.{words_from, answers_from, front_length, front_next, AcceptedCall, preview_accepted}
use Rattle.preview.proofs.run.Goals.{After-cleared-preview, After-loop-i, After-step-answer, After-step-arg-1, Start}
use Rattle.preview.proofs.run.Invariants.{Inv}
use Rattle.preview.proofs.run.Goals as goal

-- after the answers `done`, begun with the preview `first`: the section that the preview carries, and what is stored of the answers

-- ---- before the loop

module _ (c : After-cleared-preview) where
  abbrev start : Start
  start = c.before

  abbrev words : List ℤ
  words = start.args.words.now

  abbrev room : List ℤ
  room = start.args.results.now

  abbrev spare : List ℤ
  spare = start.args.remainders.now

  abbrev first : Section
  first = cleared_section start.args.band

  accepts : AcceptedCall start.args.band words (length room) (length spare)
  accepts = preview_accepted start.args.band words (length room) (length spare) start.requires

  first-ready : HoldsWords first
  first-ready = cleared_ready start.args.band accepts.band_accepted

  first-is : c.cleared-preview.result ≡ carried first
  first-is = c.cleared-preview.ensures

  -- the section that the first preview carries
  first_back : section_in c.cleared-preview.result ≡ first
  first_back = ap section_in first-is ∙ carried_back first first-ready

pub loop-i-init : goal.loop-i-init
loop-i-init c =
    record {
      most = search rules;
      section = first c;
      done = [];
      carries = first-is c;
      ready = first-ready c;
      left_words = (accepts c).all_words;
      done_length = refl;
      results_hold = refl;
      remainders_hold = refl;
      given = ap (λ (s : Section). answers_over s (words c)) (first_back c);
    }

-- ---- a word read

module _ (c : After-step-arg-1) where
  abbrev begun : After-cleared-preview
  begun = c.before.before.before

  abbrev i : ℕ
  i = c.before.before.loop-i.i

  inv : Inv begun.cleared-preview.result (words begun) (room begun) (spare begun) c.before.before.loop-i.results c.before.before.loop-i.remainders c.before.before.loop-i.preview i
  inv = c.before.before.loop-i.invariant

  below : i < length (words begun)
  below = c.before.loop-i-test.true

  abbrev x : ℤ
  x = get_or (words begun) i (pos 0)

  x-reads : to_z w32 (of_z w32 x) ≡ x
  x-reads = reads_back w32 x (omega arith)

  -- it is a word, and so are those behind it
  x-word : (is_word x ≡ true) × (are_words (drop (suc i) (words begun)) ≡ true)
  x-word = both_true _ _ (sym (words_from (words begun) i below) ∙ inv.left_words)

  -- both buffers have the place
  results-room : i < length c.before.before.loop-i.results
  results-room =
      omega (arith, below, (accepts begun).results_have, front_length result_of inv.done (room begun) _ i inv.results_hold inv.done_length (omega (arith, below, (accepts begun).results_have)))

  remainders-room : i < length c.before.before.loop-i.remainders
  remainders-room =
      omega (arith, below, (accepts begun).remainders_have, front_length remainder_of inv.done (spare begun) _ i inv.remainders_hold inv.done_length (omega (arith, below, (accepts begun).remainders_have)))

  may-go : StepAsks c.before.before.loop-i.preview x
  may-go = may_step inv.section inv.ready x x-word.0 c.before.before.loop-i.preview inv.carries

pub step-answer-requires : goal.step-answer-requires
step-answer-requires c = subst (λ (z : ℤ). StepAsks c.before.before.loop-i.preview z) (sym (x-reads c)) (may-go c)

-- ---- the preview stepped

module _ (c : After-step-answer) where
  abbrev n : After-step-arg-1
  n = c.before

  -- the section before the step, and its answer
  abbrev s : Section
  s = (inv n).section

  abbrev answer : Stepped
  answer = stepped s (x n)

  answer-is : c.step-answer.result ≡ carried_step answer
  answer-is =
      c.step-answer.ensures
      ∙ (λ k. carried_step (stepped ((ap section_in (inv n).carries ∙ carried_back s (inv n).ready) k) (x-reads n k)))

  result-cast : T (in_signed binary64 31 (float answer.section.y1)) × (to_signed 31 (float answer.section.y1) ≡ answer.y)
  result-cast = result_back s (inv n).ready (x n) (x-word n).0

  remainder-cast : T (in_signed binary64 31 (float answer.remainder)) × (to_signed 31 (float answer.remainder) ≡ answer.remainder)
  remainder-cast = remainder_back s (inv n).ready (x n) (x-word n).0

  -- the two numbers as they are stored
  y-is : to_z w32 (of_z w32 (to_signed 31 c.step-answer.result.preview.y1)) ≡ answer.y
  y-is =
      to_z-of_z {w = w32} (record { sfits = to_signed_in 31 c.step-answer.result.preview.y1 })
      ∙ ap (λ (p : PreviewStep). to_signed 31 p.preview.y1) answer-is
      ∙ result-cast.1

  remainder-stored : to_z w32 (of_z w32 (to_signed 31 c.step-answer.result.remainder)) ≡ answer.remainder
  remainder-stored =
      to_z-of_z {w = w32} (record { sfits = to_signed_in 31 c.step-answer.result.remainder })
      ∙ ap (λ (p : PreviewStep). to_signed 31 p.remainder) answer-is
      ∙ remainder-cast.1

pub float_to_int-results : goal.float_to_int-results
float_to_int-results c =
    subst (λ (p : PreviewStep). T (in_signed binary64 31 p.preview.y1)) (sym (answer-is c.before.before)) (result-cast c.before.before).0

pub bounds-results-i : goal.bounds-results-i
bounds-results-i c = results-room (n c.before.before)

pub float_to_int-remainders : goal.float_to_int-remainders
float_to_int-remainders c =
    subst (λ (p : PreviewStep). T (in_signed binary64 31 p.remainder)) (sym (answer-is c.before.before.before)) (remainder-cast c.before.before.before).0

pub bounds-remainders-i : goal.bounds-remainders-i
bounds-remainders-i c = remainders-room (n c.before.before.before)

pub loop-i-preserved : goal.loop-i-preserved
loop-i-preserved c =
    subst (λ (k : ℕ). Inv (begun m).cleared-preview.result (words (begun m)) (room (begun m)) (spare (begun m)) (set m.before.before.loop-i.results (i m) (to_z w32 (of_z w32 (to_signed 31 a.step-answer.result.preview.y1)))) (set m.before.before.loop-i.remainders (i m) (to_z w32 (of_z w32 (to_signed 31 a.step-answer.result.remainder)))) a.step-answer.result.preview k) (sym (add-one (i m)))
    (record {
      most = below m;
      section = (answer a).section;
      done = (inv m).done ++ (answer a ∷ []);
      carries = ap (λ (p : PreviewStep). p.preview) (answer-is a);
      ready = ready_stays (s a) (x m) (inv m).ready (x-word m).0;
      left_words = (x-word m).1;
      done_length = length-append (inv m).done (answer a ∷ []) ∙ omega (arith, (inv m).done_length);
      results_hold = front_next result_of (inv m).done (room (begun m)) _ (i m) (inv m).results_hold (inv m).done_length (answer a) _ (y-is a) (omega (arith, below m, (accepts (begun m)).results_have));
      remainders_hold = front_next remainder_of (inv m).done (spare (begun m)) _ (i m) (inv m).remainders_hold (inv m).done_length (answer a) _ (remainder-stored a) (omega (arith, below m, (accepts (begun m)).remainders_have));
      given =
          (inv m).given
          ∙ ap (λ (l : List Stepped). (inv m).done ++ l) (answers_from (words (begun m)) (i m) (below m) (s a))
          ∙ sym (append_snoc (inv m).done (answer a) (answers_over (answer a).section (drop (suc (i m)) (words (begun m)))));
    })
  where
    a : After-step-answer
    a = c.before.before.before

    m : After-step-arg-1
    m = n a

-- ---- after the last word

module _ (c : After-loop-i) where
  abbrev origin : After-cleared-preview
  origin = c.before.before

  last : Inv origin.cleared-preview.result (words origin) (room origin) (spare origin) c.before.loop-i.results c.before.loop-i.remainders c.before.loop-i.preview c.before.loop-i.i
  last = c.before.loop-i.invariant

  -- no word is left, so the answers are all stored
  done-is : last.done ≡ answers_over (first origin) (words origin)
  unfolding answers_over
  done-is =
      sym
      (ap (λ (f : Section). answers_over f (words origin)) (sym (first_back origin))
      ∙ last.given
      ∙ ap (λ (l : List ℤ). last.done ++ answers_over last.section l) (drop_of_length-le (words origin) c.loop-i-test.false)
      ∙ append-nil last.done)

pub shape_of-results : goal.shape_of-results
shape_of-results c =
    front_length result_of (last c).done (room (origin c)) _ c.before.loop-i.i (last c).results_hold (last c).done_length
    (omega (arith, (last c).most, (accepts (origin c)).results_have))

pub shape_of-remainders : goal.shape_of-remainders
shape_of-remainders c =
    front_length remainder_of (last c).done (spare (origin c)) _ c.before.loop-i.i (last c).remainders_hold (last c).done_length
    (omega (arith, (last c).most, (accepts (origin c)).remainders_have))

pub returns : goal.returns
returns c =
    ap₂ buffers_of (last c).results_hold (last c).remainders_hold
    ∙ ap (λ (l : List Stepped). buffers_of (filled_front (map result_of l) (room (origin c))) (filled_front (map remainder_of l) (spare (origin c)))) (done-is c)
