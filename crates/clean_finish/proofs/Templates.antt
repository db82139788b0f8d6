-- What the templates of a turn have ahead.
use Rattle.clean_finish.proofs.Words.{refl, inl, inr, Side, A, B, emission, ArePlain}
use Rattle.clean_finish.proofs.Raised.{Emits}

-- an emission treats nothing
pub emission_plain : (s : Side) → ArePlain (emission s)
emission_plain A = (refl, (refl, inr (inr (inr (inr (inr (inr (inl refl))))))), (refl, tt, (refl, tt, (refl, (refl, inl refl, inr (inr (inr (inl refl)))), (refl, (refl, inr (inr (inl refl))), (refl, (refl, inr (inl refl)), (refl, refl, (refl, refl, (refl, refl, tt)))))))))
emission_plain B = (refl, (refl, inr (inr (inr (inr (inr (inr (inl refl))))))), (refl, tt, (refl, tt, (refl, (refl, inl refl, inr (inr (inr (inl refl)))), (refl, (refl, inr (inr (inl refl))), (refl, (refl, inr (inl refl)), (refl, refl, (refl, refl, (refl, refl, tt)))))))))

pub emission_emits : (s : Side) → Emits s (emission s)
emission_emits s = record {
  bytes = inr (inr (inr (inl refl)));
  end = inr (inr (inr (inr (inl refl))));
  timer = inr (inr (inr (inr (inr (inr (inl refl))))));
  events = inr (inr (inr (inr (inr (inr (inr (inl refl)))))));
}
