-- The tables of both directions stay within their bounds.
use Rattle.std.proofs.Common.{refl, ℕ, Bool, true, false, List, [], ◌∷◌, Option, Some, None, arith, subst, sym, inl, inr}
use Rattle.model.specs.Messages.{Field}
use Rattle.model.specs.Setup.{Policy}
use Rattle.model.specs.Tables.{Table, first_table, total_size, resized}
use Rattle.model.specs.Blocks.{AreFields, AreMaxima, IsBlock}
use Rattle.model.specs.Tapes.{Note}
use Rattle.model.specs.Tapes.Note.{NoBlock, Fields, Undecodable, Unread}
use Rattle.model.specs.Decoding.{Partial}
use Rattle.header_blocks.specs.Bounds.{IsBounded}
use Rattle.header_blocks.specs.Encoding.{Encoding}
use Rattle.header_blocks.proofs.Bounded.{bounded_resized, bounded_added}
use Rattle.theory_errors.specs.Judging.{completed_in}
use Rattle.theory_header_tables.specs.State.{State, Move, after, table_after, encoding_after, state_of}
use Rattle.theory_header_tables.specs.State.Move.{Takes, Sends, Breaks, Hears, Acts}
use Rattle.theory_header_tables.specs.Rule.{IsNoted, IsGiven, IsFit, AllFit}

-- ---- a block

fields_bounded : (table : Table) (octets : List ℕ) (fields : List Field) (next : Table) → AreFields table octets fields next → IsBounded table → IsBounded next
fields_bounded table octets [] next are bounded = subst IsBounded (sym are.1) bounded
fields_bounded table octets (field ∷ fields) next (front, rest, between, is, inl indexed, more) bounded =
    fields_bounded between rest fields next more (subst IsBounded (sym indexed.same) bounded)
fields_bounded table octets (field ∷ fields) next (front, rest, between, is, inr (inl inserted), more) bounded =
    fields_bounded between rest fields next more (bounded_added field table between inserted.inserted bounded)
fields_bounded table octets (field ∷ fields) next (front, rest, between, is, inr (inr (inl literal)), more) bounded =
    fields_bounded between rest fields next more (subst IsBounded (sym literal.same) bounded)
fields_bounded table octets (field ∷ fields) next (front, rest, between, is, inr (inr (inr literal)), more) bounded =
    fields_bounded between rest fields next more (subst IsBounded (sym literal.same) bounded)

maxima_bounded : (table : Table) (octets maxima : List ℕ) (next : Table) → AreMaxima table octets maxima next → IsBounded table → IsBounded next
maxima_bounded table octets [] next are bounded = subst IsBounded (sym are.1) bounded
maxima_bounded table octets (maximum ∷ maxima) next (front, rest, is, new, more) bounded =
    maxima_bounded (resized maximum table) rest maxima next more (bounded_resized maximum table (resized maximum table) new.in_range refl)

block_bounded : (table : Table) (octets maxima : List ℕ) (fields : List Field) (next : Table) → IsBlock table octets maxima fields next → IsBounded table → IsBounded next
block_bounded table octets maxima fields next is bounded =
    fields_bounded is.between is.rest fields next is.are_fields (maxima_bounded table is.front maxima is.between is.are_maxima bounded)

-- ---- moves

-- a block of the client, as it is noted
noted_bounded : (block : Option Partial) (is_error : Bool) (table : Table) (note : Note) (next : Table) → IsNoted block is_error table note next → IsBounded table → IsBounded (table_after block next table)
noted_bounded None is_error table note next noted bounded = bounded
noted_bounded (Some block) true table note next noted bounded = subst IsBounded (sym noted.1) bounded
noted_bounded (Some block) false table NoBlock next noted bounded = absurd noted
noted_bounded (Some block) false table (Fields fields) next noted bounded = block_bounded table block.fragments noted.maxima fields next noted.is_block bounded
noted_bounded (Some block) false table Undecodable next noted bounded = subst IsBounded (sym noted.1) bounded
noted_bounded (Some block) false table Unread next noted bounded = subst IsBounded (sym noted) bounded

-- a block to the client, as it is written
given_bounded : (block : Option Partial) (encoding : Encoding) (note : Note) (next : Table) → IsGiven block encoding note next → IsBounded encoding.table → IsBounded (encoding_after block next encoding).table
given_bounded None encoding note next is bounded = bounded
given_bounded (Some block) encoding note next is bounded =
    block_bounded encoding.table block.fragments is.encodes.maxima is.fields next is.encodes.is_block bounded

-- Both are bounded.
abbrev pub AreBounded : State → Type 0
AreBounded s = IsBounded s.decoding × IsBounded s.encoding.table

one_move : (s : State) (m : Move) → IsFit s m → AreBounded s → AreBounded (after s m)
one_move s (Takes noted verdict next) fit bounded = (noted_bounded verdict.block verdict.is_error s.decoding noted.note next fit.is_noted bounded.0, bounded.1)
one_move s (Sends noted before next) fit bounded = (bounded.0, given_bounded (completed_in before noted.frame) s.encoding noted.note next fit.is_given bounded.1)
one_move s (Breaks breach) fit bounded = bounded
one_move s (Hears event) fit bounded = bounded
one_move s (Acts act) fit bounded = bounded

none_is_bounded : IsBounded first_table
unfolding total_size
none_is_bounded = record { maximum = omega arith; sizes = omega arith }

pub all_bounded : (policy : Policy) (moves : List Move) → AllFit policy moves → AreBounded (state_of policy moves)
all_bounded policy [] all = (none_is_bounded, none_is_bounded)
all_bounded policy (m ∷ moves) all = one_move (state_of policy moves) m all.1 (all_bounded policy moves all.0)
