-- A path 0 of which no line tells a priority: what is said of any path by its text is said of it, whatever its own line says.
use Rattle.std.proofs.Common.{inl, refl, ℕ, List}
use Rattle.link_script.specs.declared.script.Script.{Script}
use Rattle.path_core.specs.Octets.{octets}
use Rattle.path_core.specs.Values.{values}
use Rattle.whole_paths.specs.EachText.{IsPathText}
use Rattle.whole_paths.specs.FirstTexts.{FirstTextsDeliver, FirstTextsEnd, IsFirstText}
use Rattle.whole_paths.proofs.EachText.{each_text_delivers, each_text_delivers_in_octets, each_text_ends, each_text_ends_in_octets}

pub as_path : (script : Script) (file_a file_b : List ℕ) → IsFirstText script file_a file_b → IsPathText script 0 file_a file_b
as_path script file_a file_b text = record { mild = text.mild; joins = λ path there. inl refl; ranks = text.regular }

pub first_texts_deliver : FirstTextsDeliver values
first_texts_deliver script file_a file_b before more text = each_text_delivers script 0 file_a file_b before more (as_path script file_a file_b text)

pub first_texts_end : FirstTextsEnd values
first_texts_end script file_a file_b before more text = each_text_ends script 0 file_a file_b before more (as_path script file_a file_b text)

pub first_texts_deliver_in_octets : FirstTextsDeliver octets
first_texts_deliver_in_octets script file_a file_b before more text = each_text_delivers_in_octets script 0 file_a file_b before more (as_path script file_a file_b text)

pub first_texts_end_in_octets : FirstTextsEnd octets
first_texts_end_in_octets script file_a file_b before more text = each_text_ends_in_octets script 0 file_a file_b before more (as_path script file_a file_b text)
