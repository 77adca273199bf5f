-- What a run is handed, beside its words and its world.

-- what the top call works with: a folder, a source and a sink
pub record Hands (F R O : Type 0) : Type 0 where
  pub folder : F
  pub source : R
  pub out : O

-- these three
abbrev pub hands : {F R O : Type 0} → F → R → O → Hands F R O
hands folder source out = record { folder = folder; source = source; out = out }
