use Rattle.std.proofs.Common.{◌≡◌, ◌≢◌, ◌⊎◌, ◌/◌, ◌^◌, [], ◌∙◌, inl, inr, sym, arith}
use Rattle.sketch_base.proofs.MarkedWords.{start_marked, left_behind, end_fits, end_within, left_rest, few_rest, marks_left, first_marked_word, no_marked_word}
use Rattle.sketch_base.proofs.byte_words.ByteWords.next_word.Goals as goal
use Rattle.sketch_base.proofs.byte_words.ByteWords.next_word.Goals.{else-marks-eq0-via-then-marks-eq0+else-self-gt0, else-marks-eq0-via-else-marks-eq0}

pub overflow_shr-marks : goal.overflow_shr-marks
overflow_shr-marks c = omega (arith, c.trailing_ones-start.ensures, start_marked c.self.inside.separator c.self.inside.bytes.now c.self.inside.unmarked c.self.inside.marks c.self.invariant.0 c.self.invariant.1 c.self.invariant.2, c.self.invariant.1)

pub split_at-requires : goal.split_at-requires
split_at-requires c = omega (arith, c.trailing_ones-start.ensures, start_marked c.self.inside.separator c.self.inside.bytes.now c.self.inside.unmarked c.self.inside.marks c.self.invariant.0 c.self.invariant.1 c.self.invariant.2)

pub overflow_sub-bytes : goal.overflow_sub-bytes
overflow_sub-bytes c = left_behind c.self.inside.separator c.self.inside.bytes.now c.self.inside.unmarked c.self.inside.marks c.self.invariant.0 c.self.invariant.1 c.self.invariant.2 _ 0 _ [] [] c.trailing_ones-start.ensures c.split_at.ensures.back

pub split_at-requires-2 : goal.split_at-requires-2
split_at-requires-2 c =
    let known : (c.self.inside.unmarked ≡ 0) ⊎ (c.self.inside.marks / 2 ^ c.trailing_ones-start.result ≢ 0) =
    elim c.else-marks-eq0.branch [
      | else-marks-eq0-via-then-marks-eq0+else-self-gt0 w ↦ inl (omega arith)
      | else-marks-eq0-via-else-marks-eq0 w ↦ inr w.if-marks-eq0.false
    ] in
    end_within c.self.inside.separator c.self.inside.bytes.now c.self.inside.unmarked c.self.inside.marks c.self.invariant.0 c.self.invariant.1 c.self.invariant.2 _ _ _ [] [] c.trailing_ones-start.ensures c.split_at.ensures.back c.lowest_mark-end.ensures known

pub overflow_shr-self : goal.overflow_shr-self
overflow_shr-self c = end_fits c.self.inside.separator c.self.inside.bytes.now c.self.inside.unmarked c.self.inside.marks c.self.invariant.0 c.self.invariant.1 c.self.invariant.2 _ _ _ [] [] c.trailing_ones-start.ensures c.split_at.ensures.back c.lowest_mark-end.ensures

pub invariant_of-self-2 : goal.invariant_of-self-2
invariant_of-self-2 c =
    let known : (c.self.inside.unmarked ≡ 0) ⊎ (c.self.inside.marks / 2 ^ c.trailing_ones-start.result ≢ 0) =
    elim c.else-marks-eq0.branch [
      | else-marks-eq0-via-then-marks-eq0+else-self-gt0 w ↦ inl (omega arith)
      | else-marks-eq0-via-else-marks-eq0 w ↦ inr w.if-marks-eq0.false
    ] in (
      left_rest c.self.inside.separator c.self.inside.bytes.now c.self.inside.unmarked c.self.inside.marks c.self.invariant.0 c.self.invariant.1 c.self.invariant.2 _ _ _ _ _ c.trailing_ones-start.ensures c.split_at.ensures.back c.lowest_mark-end.ensures known c.split_at-2.ensures.front c.split_at-2.ensures.back,
      few_rest c.self.inside.separator c.self.inside.bytes.now c.self.inside.unmarked c.self.inside.marks c.self.invariant.0 c.self.invariant.1 c.self.invariant.2 _ _ _ _ _ c.trailing_ones-start.ensures c.split_at.ensures.back c.lowest_mark-end.ensures known c.split_at-2.ensures.front c.split_at-2.ensures.back,
      marks_left c.self.inside.separator c.self.inside.bytes.now c.self.inside.unmarked c.self.inside.marks c.self.invariant.0 c.self.invariant.1 c.self.invariant.2 _ _ _ _ _ c.trailing_ones-start.ensures c.split_at.ensures.back c.lowest_mark-end.ensures known c.split_at-2.ensures.front c.split_at-2.ensures.back,
    )

pub returns-clause-words : goal.returns-clause-words
returns-clause-words c =
    let known : (c.self.inside.unmarked ≡ 0) ⊎ (c.self.inside.marks / 2 ^ c.trailing_ones-start.result ≢ 0) =
    elim c.else-marks-eq0.branch [
      | else-marks-eq0-via-then-marks-eq0+else-self-gt0 w ↦ inl (omega arith)
      | else-marks-eq0-via-else-marks-eq0 w ↦ inr w.if-marks-eq0.false
    ] in
    sym c.self.view_is ∙ first_marked_word c.self.inside.separator c.self.inside.bytes.now c.self.inside.unmarked c.self.inside.marks c.self.invariant.0 c.self.invariant.1 c.self.invariant.2 _ _ _ _ _ c.trailing_ones-start.ensures c.split_at.ensures.back c.lowest_mark-end.ensures known c.split_at-2.ensures.front c.split_at-2.ensures.back

pub returns-clause-none : goal.returns-clause-none
returns-clause-none c =
    let known : (c.self.inside.unmarked ≡ 0) ⊎ (c.self.inside.marks / 2 ^ c.trailing_ones-start.result ≢ 0) =
    elim c.else-marks-eq0.branch [
      | else-marks-eq0-via-then-marks-eq0+else-self-gt0 w ↦ inl (omega arith)
      | else-marks-eq0-via-else-marks-eq0 w ↦ inr w.if-marks-eq0.false
    ] in
    λ none. no_marked_word c.self.inside.separator c.self.inside.bytes.now c.self.inside.unmarked c.self.inside.marks c.self.invariant.0 c.self.invariant.1 c.self.invariant.2 _ _ _ _ _ c.trailing_ones-start.ensures c.split_at.ensures.back c.lowest_mark-end.ensures known c.split_at-2.ensures.front c.split_at-2.ensures.back none
