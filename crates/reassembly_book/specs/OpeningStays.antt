-- No call changes what a book was opened with.
use Rattle.std.specs.Prelude.{◌≡◌, Bool, true, false, is_some, if◌then◌else◌}
use Rattle.std.proofs.Common.{refl}
use Rattle.reassembly_book.specs.declared.call.ReassemblyCall.{ReassemblyCall}
use Rattle.reassembly_book.specs.declared.call.ReassemblyCall.TheVariants.{Place, Fin, Read, AckOut, Abort}
use Rattle.reassembly_book.specs.State.{Arriving, opening}
use Rattle.reassembly_book.specs.Steps.{after_call, is_taken, fin_clash}

opening-if : (c : Bool) (book one other : Arriving) → opening one ≡ opening book → opening other ≡ opening book
    → opening (if c then one else other) ≡ opening book
opening-if true book one other e f = e
opening-if false book one other e f = f

pub opening_stays : (book : Arriving) (call : ReassemblyCall) → opening (after_call book call) ≡ opening book
opening_stays book (Place at bytes) = opening-if (is_taken at bytes book) book _ book refl refl
opening_stays book (Fin at) = opening-if (is_some (fin_clash book.known_end at book)) book book _ refl refl
opening_stays book (Read max) = opening-if (is_some book.aborted) book book _ refl refl
opening_stays book AckOut = refl
opening_stays book (Abort by_peer) = refl
