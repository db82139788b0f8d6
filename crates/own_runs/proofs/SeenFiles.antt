-- Whatever a script does, what the judge finds of a side's stream is of the side's file: each octet that was seen is there, at its place, and the
-- DATA_FIN stands behind the last one.
use Rattle.std.proofs.Common.{◌≡◌, refl, sym, ap, ◌∙◌, subst, ℕ, ◌+◌, ◌<◌, ◌^◌, true, Option, Some, None, is_some, option_map, List, [], ◌∷◌, ◌++◌, append-nil, length, length-append, arith}
use Rattle.std.specs.Prelude.{IfSome, get_or}
use Rattle.std.specs.List.{slice_get}
use Rattle.std.proofs.lemmas.Bool.{false≢true}
use Rattle.std.proofs.lemmas.Option.{slice_get-get_or}
use Rattle.capture_verdict.specs.Sent.{IsSent}
use Rattle.judge_rules.specs.declared.acks.ToldPlace.{ToldPlace}
use Rattle.octet_text.specs.Prefix.{IsPrefix}
use Rattle.seen_octets.specs.declared.octet.Octet.{Octet}
use Rattle.seen_streams.specs.State.{StreamValue}
use Rattle.own_runs.specs.Runs.{DataFinsEndTheFiles, SeenOctetsAreTheFiles, StreamsBeginTheFiles, WholeStreamsAreTheFiles, file_of}
use Rattle.own_runs.proofs.Lines.{StreamLined}
use Rattle.own_runs.proofs.OtherPaths.{run_lined_so}
use Rattle.own_runs.proofs.MapTrace.{all_same}

-- a part as long as all is all
all_of_it : (octets file : List ℕ) → IsPrefix octets file → length octets ≡ length file → octets ≡ file
all_of_it octets file begins same =
    let whole = ap (λ (xs : List ℕ). length xs) begins.whole_is in
    let both = length-append octets begins.rest in
    sym (begins.whole_is ∙ ap (λ (rest : List ℕ). octets ++ rest) (nothing begins.rest (omega (arith, whole, both, same))) ∙ append-nil octets)
  where
    nothing : (xs : List ℕ) → length xs ≡ 0 → xs ≡ []
    nothing [] none = refl
    nothing (x ∷ xs) none = absurd (omega (arith, none))

module _ (file : List ℕ) (few : length file < 2 ^ 31) (stream : StreamValue) (h : StreamLined (length file) few (λ q. get_or file q 0) stream) where
  begins : (octets : List ℕ) → IsSent stream.octet octets → IsPrefix octets file
  begins octets sent = all_same octets file (λ i below. by i (stream.octet i) (h.octets i)
      (subst (λ (k : ℕ). option_map (λ (o : Octet). o.octet) (stream.octet k) ≡ Some (get_or octets i 0)) (let same : 0 + i ≡ i = omega arith in same) (sent.held i below)))
    where
      some_is : {x y : ℕ} → (let one : Option ℕ = Some x in one) ≡ Some y → x ≡ y
      some_is e = cc

      by : (i : ℕ) (o : Option Octet) → IfSome o (λ o. (i < length file) × (o.octet ≡ get_or file i 0)) → option_map (λ (o : Octet). o.octet) o ≡ Some (get_or octets i 0)
          → (i < length file) × (get_or octets i 0 ≡ get_or file i 0)
      by i None is e = cc
      by i (Some o) is e = (is.0, sym (some_is e) ∙ is.1)

  seen : (place : ℕ) → stream.seen place ≡ true → (place < length file) × (option_map (λ (o : Octet). o.octet) (stream.octet place) ≡ slice_get file place)
  seen place was = by (stream.octet place) (h.octets place) (h.there place was)
    where
      by : (o : Option Octet) → IfSome o (λ o. (place < length file) × (o.octet ≡ get_or file place 0)) → is_some o ≡ true
          → (place < length file) × (option_map (λ (o : Octet). o.octet) o ≡ slice_get file place)
      by None is some = absurd (false≢true some)
      by (Some o) is some = (is.0, ap (λ (x : ℕ). Some x) is.1 ∙ sym (slice_get-get_or file place 0 is.0))

  end : (fin : ToldPlace) → stream.fin ≡ Some fin → fin.place ≡ length file
  end fin is = subst (λ (o : Option ToldPlace). IfSome o (λ told. told.place ≡ length file)) is h.fin

-- ---- of a run

pub streams_are : StreamsBeginTheFiles
streams_are start turns size fit run side at judged read connection s stream there =
    let it = run_lined_so start size fit turns run side at judged read connection s stream there in begins (file_of start s) it.0 stream it.1

pub seen_are : SeenOctetsAreTheFiles
seen_are start turns size fit run side at judged read connection s stream there =
    let it = run_lined_so start size fit turns run side at judged read connection s stream there in seen (file_of start s) it.0 stream it.1

pub ends_are : DataFinsEndTheFiles
ends_are start turns size fit run side at judged read connection s stream there =
    let it = run_lined_so start size fit turns run side at judged read connection s stream there in end (file_of start s) it.0 stream it.1

pub whole_are : WholeStreamsAreTheFiles
whole_are start turns size fit run side at judged read connection s stream there fin is octets sent same =
    let it = run_lined_so start size fit turns run side at judged read connection s stream there in
    all_of_it octets (file_of start s) (begins (file_of start s) it.0 stream it.1 octets sent) (same ∙ end (file_of start s) it.0 stream it.1 fin is)
