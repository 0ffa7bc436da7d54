-- What one session takes from another, and what holds of many.
use Rattle.std.proofs.Common.{◌≡◌, ℕ, List, [], Option, Some, None, inl, inr, refl, sym, ◌∙◌, ap, subst, Bool}
use Rattle.std.specs.Prelude.{ℤ, MatchOption}
use Rattle.std.proofs.lemmas.Bool.{false≢true}
use Rattle.std.specs.Global.{Global}
use Rattle.std.specs.declared.vec.Vec.{Vec}
use Rattle.sketch_countmin.specs.History.{CountHistory, seed_of}
use Rattle.sketch_frequencies.specs.Items.{Codec}
use Rattle.datasketches.specs.Actions.{Action, Shape as shape}
use Rattle.datasketches.specs.Clusters.{IsKindOf, or_stranger, Process, session_of, histories_of, LoadsShown, Shows, IsProcess, LoadKeepsShown}
use Rattle.datasketches.specs.Clusters.Process.{Began, Did, Took}
use Rattle.datasketches.specs.Histories.{History, Assignment, after_action_told}
use Rattle.datasketches.specs.Histories.History.{OfFrequent, OfCountI64, OfCountU64, OfBloom, OfStranger}
use Rattle.datasketches.specs.Images.{Image, IsSavedOf, IsImageOf, IsCountImage}
use Rattle.datasketches.specs.Names.{at_name}
use Rattle.datasketches.specs.Replies.{is_refused}
use Rattle.datasketches.specs.SessionStandsFor.{SessionStandsFor, Paired}
use Rattle.datasketches.specs.State.{SessionState}
use Rattle.datasketches.specs.Steps.{ShowsBytes, Performs}
use Rattle.datasketches.specs.Actions.Action.{Load}
use Rattle.datasketches.specs.declared.image_kind.ImageKind.{ImageKind}
use Rattle.datasketches.specs.declared.image_kind.ImageKind.TheVariants as kind
use Rattle.datasketches.specs.declared.reply.Refusal.TheVariants.{NoSuchName}
use Rattle.datasketches.specs.declared.reply.Reply.{Reply}
use Rattle.datasketches.specs.declared.reply.Reply.TheVariants.{Image as Shown, Refused}
use Rattle.datasketches.proofs.Stepping.{action_fits, action_fits_told}

-- ---- the bytes of an image, read as one of its kind

-- a Count-Min sketch's image is read under the seed of its history
count_again : (least : ℤ) (greatest seed other : ℕ) (bytes copy : List ℕ) (h : CountHistory) → IsCountImage least greatest seed bytes h → other ≡ seed_of h → copy ≡ bytes → IsCountImage least greatest other copy h
count_again least greatest seed other bytes copy h i kind same = record {
  sketch = i.sketch;
  seed_is = kind ∙ sym i.stands.seed;
  spelled = rw same i.spelled;
  stands = i.stands;
}

module _ {T C : Type 0} (eq : T → T → Bool) (codec : Codec C) (content : T → C) where
  pub read_again : (of : ImageKind) (saved : List ℕ) (h : History T) (kind : ImageKind) (bytes : List ℕ) → IsImageOf eq codec content of saved h → IsKindOf kind h → bytes ≡ saved → IsImageOf eq codec content kind bytes h
  read_again kind.Frequent saved (OfFrequent h) kind.Frequent bytes i k same = rw same i
  read_again kind.Frequent saved (OfFrequent h) _ bytes i k same = absurd k
  read_again (kind.CountI64 seed) saved (OfCountI64 h) (kind.CountI64 other) bytes i k same = count_again _ _ seed other saved bytes h i k same
  read_again (kind.CountI64 seed) saved (OfCountI64 h) _ bytes i k same = absurd k
  read_again (kind.CountU64 seed) saved (OfCountU64 h) (kind.CountU64 other) bytes i k same = count_again _ _ seed other saved bytes h i k same
  read_again (kind.CountU64 seed) saved (OfCountU64 h) _ bytes i k same = absurd k
  read_again kind.Bloom saved (OfBloom h) kind.Bloom bytes i k same = rw same i
  read_again kind.Bloom saved (OfBloom h) _ bytes i k same = absurd k
  read_again kind.Frequent saved (OfStranger (shape.Frequent sizes)) kind.Frequent bytes i k same = rw same i
  read_again kind.Frequent saved (OfStranger (shape.Frequent sizes)) _ bytes i k same = absurd k
  read_again (kind.CountI64 seed) saved (OfStranger (shape.CountI64 sizes)) (kind.CountI64 other) bytes i k same = tt
  read_again (kind.CountI64 seed) saved (OfStranger (shape.CountI64 sizes)) _ bytes i k same = absurd k
  read_again (kind.CountU64 seed) saved (OfStranger (shape.CountU64 sizes)) (kind.CountU64 other) bytes i k same = tt
  read_again (kind.CountU64 seed) saved (OfStranger (shape.CountU64 sizes)) _ bytes i k same = absurd k
  read_again kind.Bloom saved (OfStranger (shape.Bloom request)) kind.Bloom bytes i k same = rw same i
  read_again kind.Bloom saved (OfStranger (shape.Bloom request)) _ bytes i k same = absurd k
  read_again _ _ _ _ bytes i k same = absurd i

-- ---- what a session shows

module _ {T : Type 0} where
  abbrev items_of : Reply T → List ℕ
  items_of (Shown bytes) = bytes.items
  items_of _ = []

  shown_bytes : (saved : Image) (shown : Vec ℕ Global) (reply : Reply T) → reply ≡ Shown shown → ShowsBytes saved reply → shown.items ≡ saved.bytes
  shown_bytes saved shown reply e (inl said) = ap items_of (sym e ∙ said.1) ∙ said.2
  shown_bytes saved shown reply e (inr refusal) = absurd (false≢true (ap is_refused (sym e ∙ refusal)))

  shown_case : (found : Option Image) (shown : Vec ℕ Global) (reply : Reply T) → reply ≡ Shown shown → MatchOption found (reply ≡ Refused NoSuchName) (λ image. ShowsBytes image reply) → (saved : Image) × (found ≡ Some saved) × (shown.items ≡ saved.bytes)
  shown_case None shown reply e said = absurd (false≢true (ap is_refused (sym e ∙ said)))
  shown_case (Some saved) shown reply e said = (saved, refl, shown_bytes saved shown reply e said)

module _ {T C : Type 0} (eq : T → T → Bool) (codec : Codec C) (content : T → C) where
  pair_case : (action : Action T) (saved : Image) (history : Option (History T)) → Paired (IsSavedOf eq codec content) (Some saved) history → IsSavedOf eq codec content saved (or_stranger action history)
  pair_case action saved (Some h) pair = pair
  pair_case action saved None pair = absurd pair

module _ {T C : Type 0} (slot : ℕ) (eq : T → T → Bool) (input : T → List (List ℕ)) (codec : Codec C) (content : T → C) where
  -- the bytes that a session shows are an image of what it stands for
  shown_image : (action : Action T) (from : SessionState T) (a : Assignment T) (image : List ℕ) (shown : Vec ℕ Global) → SessionStandsFor eq codec content from a → Shows slot eq input codec content from image shown →
      (saved : Image) × IsSavedOf eq codec content saved (or_stranger action (a.images image)) × (shown.items ≡ saved.bytes)
  shown_image action from a image shown fits shows =
      let found = shown_case (at_name image from.images) shown (Shown shown) refl shows.1.1 in
      let pair = subst (λ (o : Option Image). Paired (IsSavedOf eq codec content) o (a.images image)) found.1 (fits.images image) in
      (found.0, pair_case eq codec content action found.0 (a.images image) pair, found.2)

  -- so another that loads these bytes stands for it
  took : (from old new : SessionState T) (a b : Assignment T) (image : List ℕ) (shown : Vec ℕ Global) (action : Action T) (reply : Reply T) →
      SessionStandsFor eq codec content from a → Shows slot eq input codec content from image shown → SessionStandsFor eq codec content old b →
      LoadsShown shown (or_stranger action (a.images image)) action → Performs slot eq input codec content old action reply new →
      SessionStandsFor eq codec content new (after_action_told input b action (or_stranger action (a.images image)) reply)
  took from old new a b image shown (Load name kind bytes max_bytes) reply stands shows fits loads step =
      let found = shown_image (Load name kind bytes max_bytes) from a image shown stands shows in
      let h = or_stranger (Load name kind bytes max_bytes) (a.images image) in
      action_fits_told slot eq input codec content (Load name kind bytes max_bytes) h reply old new b fits
      (read_again eq codec content found.0.kind found.0.bytes h kind bytes found.1 loads.0 (loads.1 ∙ found.2)) step
  took from old new a b image shown _ reply stands shows fits loads step = absurd loads

  pub load_keeps_shown : LoadKeepsShown slot eq input codec content
  load_keeps_shown from old new a b h image name shown bytes kind max_bytes reply stands is shows fits k same step =
      let e = ap (or_stranger (Load name kind bytes max_bytes)) is in
      subst (λ (g : History T). SessionStandsFor eq codec content new (after_action_told input b (Load name kind bytes max_bytes) g reply)) e
      (took from old new a b image shown (Load name kind bytes max_bytes) reply stands shows fits (subst (λ (g : History T). IsKindOf kind g) (sym e) k, same) step)

  -- each session of many stands for its histories
  pub process_stands : (p : Process T) → IsProcess slot eq input codec content p → SessionStandsFor eq codec content (session_of p) (histories_of input p)
  process_stands (Began key) is = record { sketches = λ name. tt; images = λ name. tt }
  process_stands (Did p action reply now) is = action_fits slot eq input codec content action reply (session_of p) now (histories_of input p) (process_stands p is.0) is.1
  process_stands (Took p from image shown action reply now) is =
      took (session_of from) (session_of p) now (histories_of input from) (histories_of input p) image shown action reply
      (process_stands from is.1) is.2 (process_stands p is.0) is.3 is.4
