-- What an end shows of its lanes, with one part given anew.
use Rattle.world_laws.proofs.Lanes.Showing.{Parts}

module _ {S R A T X P H Y : Type 0} where
  pub new_sender : Y → Parts S R A T X P H → Parts Y R A T X P H
  new_sender y h = record { sender = y; receiver = h.receiver; acks = h.acks; told = h.told; treated = h.treated; pairs = h.pairs; held = h.held }

  pub new_receiver : Y → Parts S R A T X P H → Parts S Y A T X P H
  new_receiver y h = record { sender = h.sender; receiver = y; acks = h.acks; told = h.told; treated = h.treated; pairs = h.pairs; held = h.held }

  pub new_acks : Y → Parts S R A T X P H → Parts S R Y T X P H
  new_acks y h = record { sender = h.sender; receiver = h.receiver; acks = y; told = h.told; treated = h.treated; pairs = h.pairs; held = h.held }

  pub new_told : Y → Parts S R A T X P H → Parts S R A Y X P H
  new_told y h = record { sender = h.sender; receiver = h.receiver; acks = h.acks; told = y; treated = h.treated; pairs = h.pairs; held = h.held }

  pub new_treated : Y → Parts S R A T X P H → Parts S R A T Y P H
  new_treated y h = record { sender = h.sender; receiver = h.receiver; acks = h.acks; told = h.told; treated = y; pairs = h.pairs; held = h.held }

  pub new_pairs : Y → Parts S R A T X P H → Parts S R A T X Y H
  new_pairs y h = record { sender = h.sender; receiver = h.receiver; acks = h.acks; told = h.told; treated = h.treated; pairs = y; held = h.held }

  pub new_held : Y → Parts S R A T X P H → Parts S R A T X P Y
  new_held y h = record { sender = h.sender; receiver = h.receiver; acks = h.acks; told = h.told; treated = h.treated; pairs = h.pairs; held = y }
