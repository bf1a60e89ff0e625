-- The notes of frames are determined, and so is the table that their blocks leave.
use Rattle.std.proofs.Common.{◌≡◌, Bool, true, false, ◌&&◌, List, [], ◌∷◌, map, Option, Some, None, refl, ap, sym, ◌∙◌, subst}
use Rattle.model.specs.Frames.{Frame}
use Rattle.model.specs.Tables.{Table}
use Rattle.model.specs.Tapes.{Note, Noted}
use Rattle.model.specs.Tapes.Note.{NoBlock, Fields, Undecodable, Unread}
use Rattle.model.specs.Decoding.{Partial, completed, IsNoteOf, is_read, are_read, Decodes}
use Rattle.model.proofs.BlockLaws.{one_block}

first_true : (a b : Bool) → (a && b) ≡ true → a ≡ true
first_true true b e = refl
first_true false b e = e

second_true : (a b : Bool) → (a && b) ≡ true → b ≡ true
second_true true b e = e
second_true false b e = let clash : false ≡ true = e in cc

-- two notes that are right for one block
one_note : (block : Option Partial) (table t u : Table) (a b : Note) → is_read a ≡ true → is_read b ≡ true → IsNoteOf block table a t → IsNoteOf block table b u → (a ≡ b) × (t ≡ u)
one_note None table t u a b r s p q = (p.0 ∙ sym q.0, p.1 ∙ sym q.1)
one_note (Some block) table t u NoBlock b r s p q = absurd p
one_note (Some block) table t u (Fields fields) NoBlock r s p q = absurd q
one_note (Some block) table t u (Fields fields) (Fields others) r s p q = let same = one_block table t u block.fragments fields others p q in (ap (λ f. Fields f) same.0, same.1)
one_note (Some block) table t u (Fields fields) Undecodable r s p q = absurd (q.0 fields t p)
one_note (Some block) table t u (Fields fields) Unread r s p q = let clash : false ≡ true = s in cc
one_note (Some block) table t u Undecodable NoBlock r s p q = absurd q
one_note (Some block) table t u Undecodable (Fields others) r s p q = absurd (p.0 others u q)
one_note (Some block) table t u Undecodable Undecodable r s p q = (refl, p.1 ∙ sym q.1)
one_note (Some block) table t u Undecodable Unread r s p q = let clash : false ≡ true = s in cc
one_note (Some block) table t u Unread b r s p q = let clash : false ≡ true = r in cc

noted_of : Frame → Note → Noted
noted_of frame note = record { frame = frame; note = note }

noted_same : (a b : Noted) → a.frame ≡ b.frame → a.note ≡ b.note → a ≡ b
unfolding noted_of
noted_same a b e f = ap (λ frame. noted_of frame a.note) e ∙ ap (λ note. noted_of b.frame note) f

pub one_decoding : (xs ys : List Noted) (t u : Table) → map (λ n. n.frame) xs ≡ map (λ n. n.frame) ys → are_read xs ≡ true → are_read ys ≡ true → Decodes xs t → Decodes ys u → (xs ≡ ys) × (t ≡ u)
one_decoding [] [] t u e r s p q = (refl, p ∙ sym q)
one_decoding [] (y ∷ ys) t u e r s p q = cc
one_decoding (x ∷ xs) [] t u e r s p q = cc
one_decoding (x ∷ xs) (y ∷ ys) t u e r s p q =
    let frames : x.frame ≡ y.frame = cc in
    let rests : map (λ n. n.frame) xs ≡ map (λ n. n.frame) ys = cc in
    let before = one_decoding xs ys p.0 q.0 rests (second_true (is_read x.note) (are_read xs) r) (second_true (is_read y.note) (are_read ys) s) p.1 q.1 in
    let block : completed ys y.frame ≡ completed xs x.frame = ap (λ (l : List Noted). completed l y.frame) (sym before.0) ∙ ap (λ f. completed xs f) (sym frames) in
    let right : IsNoteOf (completed xs x.frame) p.0 y.note u = subst (λ b. IsNoteOf b p.0 y.note u) block (subst (λ o. IsNoteOf (completed ys y.frame) o y.note u) (sym before.1) q.2) in
    let notes = one_note (completed xs x.frame) p.0 t u x.note y.note (first_true (is_read x.note) (are_read xs) r) (first_true (is_read y.note) (are_read ys) s) p.2 right in
    (ap (λ h. h ∷ xs) (noted_same x y frames notes.0) ∙ ap (λ l. y ∷ l) before.0, notes.1)
