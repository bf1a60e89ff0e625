-- A text has one reading as frames.
use Rattle.std.proofs.Common.{◌≡◌, ℕ, ◌+◌, ◌*◌, ◌/◌, ◌%◌, ◌<◌, List, [], ◌∷◌, ◌++◌, length, take, refl, ap, sym, ◌∙◌, subst, arith}
use Rattle.std.proofs.lemmas.List.{append_cancel_left}
use Rattle.std.proofs.Math.Seq.{take-append_seam}
use Rattle.model.specs.Frames.{Frame, Fits, Spells, spelled, Reading, BeginsNoFrame, IsConnection, preface}

-- two fronts of one length of a list are one
same_front : (a b x y : List ℕ) → length a ≡ length b → a ++ x ≡ b ++ y → a ≡ b
same_front a b x y l e =
    sym (take-append_seam a x) ∙ ap (take (length a)) e ∙ ap (λ n. take n (b ++ y)) l ∙ take-append_seam b y

-- three octets determine their number
same_length : (a b : ℕ) → a / 65536 ≡ b / 65536 → (a / 256) % 256 ≡ (b / 256) % 256 → a % 256 ≡ b % 256 → a ≡ b
same_length a b e f g = omega arith

-- four octets determine the bit and the 31 bits after it
same_id : (i j s t : ℕ) → s < 2 → t < 2 → i < 2147483648 → j < 2147483648
    → (2147483648 * s + i) / 16777216 ≡ (2147483648 * t + j) / 16777216
    → ((2147483648 * s + i) / 65536) % 256 ≡ ((2147483648 * t + j) / 65536) % 256
    → ((2147483648 * s + i) / 256) % 256 ≡ ((2147483648 * t + j) / 256) % 256
    → (2147483648 * s + i) % 256 ≡ (2147483648 * t + j) % 256 → (s ≡ t) × (i ≡ j)
same_id i j s t hs ht hi hj e f g h = (omega arith, omega arith)

same_frame : (f g : Frame) → f.kind ≡ g.kind → f.flags ≡ g.flags → f.id ≡ g.id → f.payload ≡ g.payload → f ≡ g
same_frame f g k l i p =
    ap (λ (v : ℕ). let r : Frame = record { kind = v; flags = f.flags; id = f.id; payload = f.payload } in r) k
    ∙ ap (λ (v : ℕ). let r : Frame = record { kind = g.kind; flags = v; id = f.id; payload = f.payload } in r) l
    ∙ ap (λ (v : ℕ). let r : Frame = record { kind = g.kind; flags = g.flags; id = v; payload = f.payload } in r) i
    ∙ ap (λ (v : List ℕ). let r : Frame = record { kind = g.kind; flags = g.flags; id = g.id; payload = v } in r) p

module _ (f g : Frame) (s t : ℕ) (x y : List ℕ) (fits_f : Fits f) (fits_g : Fits g) (hs : s < 2) (ht : t < 2) (e : spelled s f ++ x ≡ spelled t g ++ y) where
  lengths : length f.payload ≡ length g.payload
  lengths = same_length (length f.payload) (length g.payload) (cc) (cc) (cc)

  ids : (s ≡ t) × (f.id ≡ g.id)
  ids = same_id f.id g.id s t hs ht fits_f.id fits_g.id (cc) (cc) (cc) (cc)

  payloads : f.payload ≡ g.payload
  payloads = same_front f.payload g.payload x y lengths (cc)

  frames : f ≡ g
  frames = same_frame f g (cc) (cc) ids.1 payloads

-- no spelled frame begins another
pub one_frame : (a b x y : List ℕ) (f g : Frame) → Spells a f → Spells b g → a ++ x ≡ b ++ y → (a ≡ b) × (f ≡ g)
one_frame a b x y f g p q e =
    let whole : spelled p.bit f ++ x ≡ spelled q.bit g ++ y = ap (λ o. o ++ x) (sym p.is) ∙ e ∙ ap (λ o. o ++ y) q.is in
    let same = frames f g p.bit q.bit x y p.fits q.fits p.is_bit q.is_bit whole in
    let bits = (ids f g p.bit q.bit x y p.fits q.fits p.is_bit q.is_bit whole).0 in
    (p.is ∙ ap (λ o. spelled o f) bits ∙ ap (spelled q.bit) same ∙ sym q.is, same)

-- a text has one reading
pub one_text : (text : List ℕ) (fs gs : List Frame) (x y : List ℕ) → Reading text fs x → BeginsNoFrame x → Reading text gs y → BeginsNoFrame y → (fs ≡ gs) × (x ≡ y)
one_text text [] [] x y p nx q ny = (refl, sym p ∙ q)
one_text text [] (g ∷ gs) x y p nx q ny = absurd (nx q.0 q.1 g q.2 (sym p ∙ q.3))
one_text text (f ∷ fs) [] x y p nx q ny = absurd (ny p.0 p.1 f p.2 (sym q ∙ p.3))
one_text text (f ∷ fs) (g ∷ gs) x y p nx q ny =
    let first = one_frame p.0 q.0 p.1 q.1 f g p.2 q.2 (sym p.3 ∙ q.3) in
    let more : p.1 ≡ q.1 = append_cancel_left q.0 p.1 q.1 (ap (λ o. o ++ p.1) (sym first.0) ∙ sym p.3 ∙ q.3) in
    let rest = one_text p.1 fs gs x y p.4 nx (subst (λ (m : List ℕ). Reading m gs y) (sym more) q.4) ny in
    (ap (λ h. h ∷ fs) first.1 ∙ ap (λ hs. g ∷ hs) rest.0, rest.1)

-- and so has a connection
pub one_connection : (text : List ℕ) (fs gs : List Frame) (x y : List ℕ) → IsConnection text fs x → IsConnection text gs y → (fs ≡ gs) × (x ≡ y)
one_connection text fs gs x y p q =
    let same : p.after_preface ≡ q.after_preface = append_cancel_left preface p.after_preface q.after_preface (sym p.begins ∙ q.begins) in
    one_text p.after_preface fs gs x y p.reading p.ends (subst (λ (m : List ℕ). Reading m gs y) (sym same) q.reading) q.ends
