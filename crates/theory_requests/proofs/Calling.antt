-- What an item that a frame adds to a served stream gives the calls of the request writer: what each of them requires.
use Rattle.std.proofs.Common.{◌≡◌, ℕ, ◌<◌, Bool, true, false, List, [], ◌∷◌, ◌++◌, length, subst}
use Rattle.std.specs.Prelude.{None}
use Rattle.std.specs.List.{concat}
use Rattle.model.specs.Messages.{Field}
use Rattle.model.specs.Messages.Item.{Block, Content}
use Rattle.model.specs.Http2.{HasLength}
use Rattle.model.specs.Malformed.{carried_by}
use Rattle.model.specs.Tapes.{Noted, Entry}
use Rattle.model.specs.Tapes.Entry.{Came}
use Rattle.model.specs.Known.{Known}
use Rattle.model.specs.Courses.{items, cause}
use Rattle.request_rules.specs.Heads.{parts_of}
use Rattle.h1_writer.specs.Sending.{Stage, MayPush, MayFinish}
use Rattle.h1_writer.specs.Sending.Stage.{Whole}
use Rattle.theory_requests.specs.Written.{IsWritten, IsAwaited, IsTaken}
use Rattle.theory_requests.specs.Meaning.{Brings}
use Rattle.theory_requests.proofs.Fitting.{head_taken, content_fits, trailers_fit, last_fits, trailers_behind}
use Rattle.theory_requests.proofs.Bringing.{IsGood, is_good}

pub head_fits : (known : Known) (t : List Entry) (noted : Noted) (head : List Field) (ended : Bool) → items known noted.frame.id t ≡ [] → Brings known t noted (Block head ended) → 0 < noted.frame.id → cause known noted.frame.id (Came noted ∷ t) ≡ None → IsTaken known.setup head ended
head_fits known t noted head ended empty brings some calm =
    let good : IsGood known.setup (carried_by [] false) (Block head ended) = subst (λ xs. IsGood known.setup (carried_by xs false) (Block head ended)) empty (is_good known t noted (Block head ended) brings some calm) in
    head_taken known.setup head ended good.0 good.1

pub octets_fit : (known : Known) (t : List Entry) (noted : Noted) (octets : List ℕ) (ends : Bool) (text : List ℕ) (stage : Stage) → Brings known t noted (Content octets ends) → 0 < noted.frame.id → cause known noted.frame.id (Came noted ∷ t) ≡ None → (w : IsWritten known.setup.keep (items known noted.frame.id t) text stage) → (stage ≡ Whole → ⊥) → MayPush stage (length octets) × (ends ≡ true → HasLength (parts_of w.head).length (concat w.pieces ++ octets))
octets_fit known t noted octets ends text stage brings some calm w part =
    content_fits known.setup.keep (items known noted.frame.id t) text stage w part octets ends (is_good known t noted (Content octets ends) brings some calm)

pub trailers_end : (known : Known) (t : List Entry) (noted : Noted) (fields : List Field) (ends : Bool) (text : List ℕ) (stage : Stage) → Brings known t noted (Block fields ends) → 0 < noted.frame.id → cause known noted.frame.id (Came noted ∷ t) ≡ None → IsWritten known.setup.keep (items known noted.frame.id t) text stage → (stage ≡ Whole → ⊥) → (ends ≡ true) × MayFinish stage
trailers_end known t noted fields ends text stage brings some calm w part =
    let fits = trailers_fit known.setup.keep (items known noted.frame.id t) text stage w part fields ends (is_good known t noted (Block fields ends) brings some calm).1 in (fits.0, fits.2)

pub last_octets_fit : (known : Known) (t : List Entry) (noted : Noted) (octets : List ℕ) (text : List ℕ) (stage : Stage) (body : List ℕ) → Brings known t noted (Content octets true) → 0 < noted.frame.id → cause known noted.frame.id (Came noted ∷ t) ≡ None → (w : IsAwaited known.setup.keep (items known noted.frame.id t) text stage body) → MayPush stage (length (body ++ octets)) × HasLength (parts_of w.head).length (body ++ octets)
last_octets_fit known t noted octets text stage body brings some calm w =
    last_fits known.setup.keep (items known noted.frame.id t) text stage body w octets (is_good known t noted (Content octets true) brings some calm)

pub last_trailers_fit : (known : Known) (t : List Entry) (noted : Noted) (fields : List Field) (ends : Bool) (text : List ℕ) (stage : Stage) (body : List ℕ) → Brings known t noted (Block fields ends) → 0 < noted.frame.id → cause known noted.frame.id (Came noted ∷ t) ≡ None → (w : IsAwaited known.setup.keep (items known noted.frame.id t) text stage body) → (ends ≡ true) × MayPush stage (length body) × HasLength (parts_of w.head).length body
last_trailers_fit known t noted fields ends text stage body brings some calm w =
    let fits = trailers_behind known.setup.keep (items known noted.frame.id t) text stage body w fields ends (is_good known t noted (Block fields ends) brings some calm).1 in (fits.0, fits.2, fits.3)
