use Rattle.run_log.proofs.Words.{◌≡◌, ◌∷◌, ◌++◌, take, drop, string_bytes, All, flat_map, spaced, RowFits, row_words}
use Rattle.run_log.proofs.control_reply.put_each_row.Given as goal

abbrev pub invariant-loop-row : goal.invariant-loop-row
invariant-loop-row l = record {
  text : string_bytes l.text ++ flat_map (λ row. 32 ∷ spaced (row_words row)) (drop l.row-index l.rows) ≡ string_bytes l.fn.text ++ flat_map (λ row. 32 ∷ spaced (row_words row)) l.rows;
  fits : All RowFits (take l.row-index l.rows);
}
