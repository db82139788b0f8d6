use Rattle.path_core.proofs.Words.{refl, fixed_header, option_text, spelled}
use Rattle.path_core.proofs.laws.a_first_round.Goals as goal
use Rattle.segment_wire.specs.Checksum.{covered_sum}
use Rattle.address_manager.specs.IdSet.{no_ids}
use Rattle.control_book.specs.Registry.{opening_paths, every_path, stands_beside, serves_beside}
use Rattle.control_book.specs.Control.{no_withdrawals}
use Rattle.key_material.specs.Drawing.{drawn_word}
use Rattle.rand_core.specs.Steps.{u32_at}
use Rattle.rand_chacha.specs.Block.{quarter_round, column_round, diagonal_round, double_rounds, block_word}

-- src/laws.rt:19:1
pub returns : goal.returns
unfolding covered_sum fixed_header spelled option_text no_ids opening_paths every_path stands_beside serves_beside no_withdrawals drawn_word u32_at quarter_round column_round diagonal_round double_rounds block_word
returns c = refl
