-- Strings as items: a value for given bytes, and additions by bytes.

use Rattle.std.proofs.Common.{◌≡◌, ◌≢◌, ◌<◌, ◌^◌, ℕ, Bool, cond, List, Option, None, Some, Result, Ok, Err, true, inl, inr, refl, sym, ◌∙◌, ap, length, arith}
use Rattle.std.specs.Prelude.{⊤, IsErr, IsTrue, MatchOption}
use Rattle.std.specs.Cmp.Lexicographic.{bytes_decides}
use Rattle.std.proofs.lemmas.Bool.{false≢true}
use Rattle.std.specs.Global.{Global}
use Rattle.std.specs.Ptr.{null_ptr}
use Rattle.std.specs.Str.{IsUtf8, bytes_eq}
use Rattle.std.specs.String.{string_bytes, string_eq}
use Rattle.sketch_base.specs.Errors.{no_memory}
use Rattle.datasketches.specs.Actions.{Change, Alter, Add}
use Rattle.datasketches.specs.Changing.{Changes}
use Rattle.datasketches.specs.Histories.{changed}
use Rattle.datasketches.specs.Keyed.{RunsOut}
use Rattle.datasketches.specs.Names.{at_name, AreSame}
use Rattle.datasketches.specs.Replies.{done_or, is_refused}
use Rattle.datasketches.specs.Stands.{Does}
use Rattle.datasketches.specs.State.{SessionState, IsUnchanged}
use Rattle.datasketches.specs.Steps.{OnSketch}
use Rattle.datasketches.specs.declared.reply.Refusal.{Refusal}
use Rattle.datasketches.specs.declared.reply.Refusal.TheVariants.{Call}
use Rattle.datasketches.specs.declared.reply.Reply.{Reply}
use Rattle.datasketches.specs.declared.sketch.Sketch.{Sketch}
use Rattle.datasketches_cli.specs.Steps.{Did, DidByBytes, DidWith}
use Rattle.datasketches_cli.specs.Texts.{Text, text_input}

-- for valid UTF-8 bytes there is a value of type `String` with these bytes, which a key of them names. It exists in proofs
-- alone, and needs no memory
pub text_named : (bytes : List ℕ) → IsUtf8 bytes → length bytes < 2 ^ 63 → Global → (text : Text) × (string_bytes text ≡ bytes) × IsTrue (bytes_eq bytes (string_bytes text))
text_named bytes utf8 small alloc = (
  record {
    bytes = record { ptr = null_ptr; len = length bytes; cap = length bytes; alloc = alloc; items = bytes; ok = (refl, omega arith); small = small };
    ok = ∣ utf8 ∣₁;
  },
  refl,
  (bytes_decides bytes bytes).1 refl,
)

-- ---- additions

on_same : (DoesThis : Sketch Text → Reply Text → Sketch Text → Type 0) (name : List ℕ) (found : Option (Sketch Text)) (old mid : List (List ℕ × Sketch Text)) (reply : Reply Text) (new : List (List ℕ × Sketch Text)) →
    at_name name mid ≡ found → AreSame old mid → OnSketch DoesThis name mid reply new → OnSketch DoesThis name old reply new
on_same DoesThis name None old mid reply new e same on =
    let done = rw e at on in
    rw (sym (same name) ∙ e) (done.0, λ other. done.1 other ∙ same other)
on_same DoesThis name (Some sketch) old mid reply new e same on =
    let (after, does, puts) = rw e at on in
    rw (sym (same name) ∙ e) (after, does, λ other. puts other ∙ ap (cond (bytes_eq name other) (Some after)) (same other))

-- a change of an unchanged session is one of the session before
from_unchanged : (name : List ℕ) (change : Change Text) (old mid new : SessionState Text) (reply : Reply Text) → IsUnchanged old mid → Did (Alter name change) mid reply new → Did (Alter name change) old reply new
from_unchanged name change old mid new reply same did = (
  on_same (Does string_eq (Changes string_eq text_input change) (changed text_input change)) name (at_name name mid.sketches) old.sketches mid.sketches reply new.sketches refl same.sketches did.0,
  record { images = λ n. did.1.images n ∙ same.images n; keys = did.1.keys ∙ same.keys },
)

out_case : (found : Option (Sketch Text)) (names : Text → Bool) (weight : ℕ) (result : Result ⊤ Refusal) → MatchOption found ⊥ (λ sketch. RunsOut names weight sketch result) → result ≡ Err (Call no_memory)
out_case None names weight result out = absurd out
out_case (Some sketch) names weight result out = out.error

-- a string was added by its bytes, where memory did not run out
pub added : (name bytes : List ℕ) (weight : ℕ) (old new : SessionState Text) (result : Result ⊤ Refusal) → result ≢ Err (Call no_memory) → DidByBytes name bytes weight old result new → DidWith bytes (λ x. Alter name (Add x weight)) old (done_or result) new
added name bytes weight old new result some (inl (item, named, did)) = (item, sym ((bytes_decides bytes (string_bytes item)).0 named), did.step)
added name bytes weight old new result some (inr (same, out)) = absurd (some (out_case (at_name name old.sketches) (λ x. bytes_eq bytes (string_bytes x)) weight result out))

was_refused : (result : Result ⊤ Refusal) → IsErr result → is_refused (done_or {T = Text} result) ≡ true
was_refused (Err refusal) err = refl
was_refused (Ok done) err = absurd (false≢true err)

unchanged_case : (name bytes : List ℕ) (weight : ℕ) (old mid : SessionState Text) (result : Result ⊤ Refusal) → IsErr result → DidByBytes name bytes weight old result mid → IsUnchanged old mid
unchanged_case name bytes weight old mid result out (inl (item, named, did)) = did.refused (was_refused result out)
unchanged_case name bytes weight old mid result out (inr (same, runs)) = same

-- where it was rejected, another addition is one to the session before
pub added_after : (name bytes : List ℕ) (weight : ℕ) (old mid new : SessionState Text) (result : Result ⊤ Refusal) (reply : Reply Text) → IsErr result → DidByBytes name bytes weight old result mid →
    DidWith bytes (λ x. Alter name (Add x weight)) mid reply new → DidWith bytes (λ x. Alter name (Add x weight)) old reply new
added_after name bytes weight old mid new result reply out by_key (item, same, did) =
    (item, same, from_unchanged name (Add item weight) old mid new reply (unchanged_case name bytes weight old mid result out by_key) did)
