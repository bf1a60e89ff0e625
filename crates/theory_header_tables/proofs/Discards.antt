-- A run whose blocks are for nobody: one comes on a stream that was reset, and goes into the table all the same; one comes on an
-- id that no stream may have, and is left unread. And what the encoder must announce.
use Rattle.std.proofs.Common.{◌≡◌, ◌≤◌, true, false, List, [], ◌∷◌, Some, None, refl, inl, inr, arith}
use Rattle.model.specs.Messages.{Field}
use Rattle.model.specs.Tables.{Table, static_table, total_size, first_table, added, field_of}
use Rattle.model.specs.Blocks.{Block}
use Rattle.std.specs.Prelude.{codes}
use Rattle.model.specs.Frames.{headers_kind, rst_stream_kind, settings_kind, settings_frame}
use Rattle.model.specs.Setup.Policy.{Plain}
use Rattle.model.specs.Tapes.{Note}
use Rattle.model.specs.Tapes.Note.{NoBlock, Fields, Unread}
use Rattle.model.specs.Decoding.{Partial}
use Rattle.model.specs.Headline.{OthersAreRead}
use Rattle.model.proofs.MaximaLaws.{one_maxima}
use Rattle.std.proofs.lemmas.List.Elements.{All-cons, All-nil}
use Rattle.header_blocks.specs.Encoding.{StandsFor}
use Rattle.theory_header_tables.specs.Spelling.{block_of}
use Rattle.theory_header_tables.specs.State.{Move, state_of, tape_of}
use Rattle.theory_header_tables.specs.State.Move.{Takes, Sends}
use Rattle.theory_header_tables.specs.Rule.{IsEncoded, AllCame}
use Rattle.theory_header_tables.specs.Kept.{AllJudged, KeepTables}
use Rattle.theory_header_tables.proofs.Tables.{run_holds, tables_kept}
use Rattle.theory_header_tables.proofs.Requests.{frame, noted, completes, settled, request, decoded, request_read}
use Rattle.theory_header_tables.proofs.Example.{fell_and_rose, first_due}

-- what comes behind the request
abbrev trailer : Field
trailer = field_of (codes ":authority") (codes "b")

-- the table with that too
abbrev more_decoded : Table
more_decoded = added trailer decoded

-- the moves, the newest first
abbrev run : List Move
run =
    Takes (noted (frame headers_kind 4 2 (130 ∷ [])) Unread) (record { is_error = true; is_taken = false; block = Some (block_of 2 false (130 ∷ [])) }) more_decoded
    ∷ Takes (noted (frame headers_kind 5 1 (65 ∷ 1 ∷ 98 ∷ [])) (Fields (trailer ∷ []))) (completes (block_of 1 true (65 ∷ 1 ∷ 98 ∷ []))) more_decoded
    ∷ Sends (noted (frame rst_stream_kind 0 1 (0 ∷ 0 ∷ 0 ∷ 8 ∷ [])) NoBlock) None first_table
    ∷ Takes (noted (frame headers_kind 4 1 (130 ∷ 134 ∷ 132 ∷ 65 ∷ 1 ∷ 97 ∷ [])) (Fields request)) (completes (block_of 1 false (130 ∷ 134 ∷ 132 ∷ 65 ∷ 1 ∷ 97 ∷ []))) decoded
    ∷ Takes (noted (frame settings_kind 0 0 []) NoBlock) settled first_table
    ∷ Sends (noted (settings_frame 0) NoBlock) None first_table
    ∷ []

judged : AllJudged run
unfolding total_size
judged = ((((((tt, refl), record { error = refl; taken = refl; block = refl }), record { error = refl; taken = refl; block = refl }), refl), record { error = refl; taken = refl; block = refl }), record { error = refl; taken = refl; block = refl })

trailer_read : Block decoded (65 ∷ 1 ∷ 98 ∷ []) (trailer ∷ []) more_decoded
unfolding static_table
trailer_read = record {
  maxima = [];
  is_block = record {
    front = [];
    rest = 65 ∷ 1 ∷ 98 ∷ [];
    between = decoded;
    is = refl;
    are_maxima = (refl, refl);
    are_fields = (
      65 ∷ 1 ∷ 98 ∷ [],
      [],
      more_decoded,
      refl,
      inr (inl (record {
        literal = record {
          index = 1;
          index_octets = 65 ∷ [];
          name_octets = [];
          value_octets = 1 ∷ 98 ∷ [];
          is = refl;
          marked = record { int = inl (record { first = 65; is = refl; low_bits = refl; not_ones = omega arith }); marked = refl };
          name = inr (record { is_empty = refl; entry = field_of (codes ":authority") []; found = refl; same = refl });
          string = inl (record { header = 1 ∷ []; is = refl; number = record { int = inl (record { first = 1; is = refl; low_bits = refl; not_ones = omega arith }); marked = refl } });
        };
        inserted = refl;
      })),
      (refl, refl),
    );
  };
}

came : AllCame Plain run
came = (
  (
    (
      (
        ((tt, record { together = refl; is_given = refl }), record { all_read = refl; is_taken = record { is_noted = refl } }),
        record { all_read = refl; is_taken = record { is_noted = request_read } },
      ),
      record { together = refl; is_given = refl },
    ),
    record { all_read = refl; is_taken = record { is_noted = trailer_read } },
  ),
  record { all_read = refl; is_taken = record { is_noted = (refl, refl) } },
)

-- The tables are in step behind them, and just the last block is unread.
pub run_keeps : KeepTables Plain (tape_of run) (state_of Plain run)
run_keeps = tables_kept Plain (tape_of run) (state_of Plain run) (run_holds Plain run judged came)

pub others_are_read : OthersAreRead (tape_of run)
others_are_read = run_keeps.others_are_read refl

-- A limit that fell and rose is announced by both maxima, whatever the block.
pub both_announced : (block : Partial) (note : Note) (next : Table) (w : IsEncoded fell_and_rose block note next) → w.encodes.maxima ≡ 0 ∷ 4096 ∷ []
both_announced block note next w = one_maxima 4096 (0 ∷ 4096 ∷ []) w.encodes.maxima (0 ∷ 4096 ∷ []) (w.encodes.due (0 ∷ 4096 ∷ []) stands) (first_due (0 ∷ 4096 ∷ []) stands)
  where
    stands : StandsFor (0 ∷ 4096 ∷ []) fell_and_rose.limits
    stands = record { least = record { named = (0, omega arith, refl); below = All-cons (λ n. 0 ≤ n) 0 (4096 ∷ []) (omega arith) (All-cons (λ n. 0 ≤ n) 4096 [] (omega arith) (All-nil (λ n. 0 ≤ n))) }; last = record { before = 0 ∷ []; is = refl } }
