use Rattle.std.proofs.Common.{◌≡◌, ℕ, ℤ, List, refl, ◌∙◌}
use Rattle.std.specs.Prelude.{Err}
use Rattle.any_sketch.specs.Writing.{LacksImage}
use Rattle.any_sketch.specs.declared.any_error.AnyError.{AnyError}
use Rattle.any_sketch.specs.declared.any_error.AnyError.TheVariants.{Sketch, WrongKind}
use Rattle.any_sketch.specs.declared.any_sketch.AnySketch.{AnySketch}
use Rattle.datasketches_c.specs.AnyImages.{WritesImageOf, written_or_no_room}
use Rattle.datasketches_c.specs.Calls.{code_of}
use Rattle.datasketches_c.specs.Numbers.{ok}
use Rattle.datasketches_c.proofs.AnswerLemmas.{handed_on}
use Rattle.datasketches_c.proofs.any_images.write_image.Goals as goal

-- the number of an error is the same for each call
one_number : (error : AnyError) → code_of {A = Unit {0}} (λ _. ok) (Err error) ≡ code_of written_or_no_room (Err error)
one_number WrongKind = refl
one_number (Sketch e) = refl

-- there is no image, and nothing was written
not_written : (s : AnySketch) (old new : List ℕ) (count : ℕ) (error : AnyError) (result : ℤ) → LacksImage s error → new ≡ old
    → result ≡ code_of {A = Unit {0}} (λ _. ok) (Err error) → WritesImageOf s old new count count result
not_written s old new count error result lacks same is = record {
  answer = Err error;
  writes = record { image = tt; fits = tt; known = tt; rest = tt; short = tt; none = tt; lacks = lacks; unchanged = same };
  number = is ∙ one_number error;
  counted = tt;
  needed = tt;
  uncounted = refl;
}

-- an image for which there was no room, and then none
pub returns-in-Err-serialized_size-clause-image : goal.returns-in-Err-serialized_size-clause-image
returns-in-Err-serialized_size-clause-image c =
    let same = c.in-Ok-None.ensures.none c.in-Ok-None.field-0-is in
    handed_on (λ (z : ℤ). WritesImageOf c.args.sketch.now c.args.out.now c.serialize_into.new.out c.args.written.now c.args.written.now z) c.code_of_error.result c.code_of_error.type_inv
    (not_written c.args.sketch.now c.args.out.now c.serialize_into.new.out c.args.written.now c.in-Err-serialized_size.error c.code_of_error.result c.in-Err-serialized_size.ensures.lacks same c.code_of_error.ensures)
