-- What a hall shows, of its fields.
use Rattle.sws_gopher.specs.declared.hall.Hall.TheInside.{Inside}
use Rattle.sws_gopher.specs.Menus.{Place, place_of}
use Rattle.sws_gopher.specs.Halls.{IsHall, KeepsTexts, KeepsMenus}

-- a hall, of its private fields
abbrev pub place_in : Inside → Place
place_in hall = place_of hall.site.now hall.host.items hall.port

-- its texts and menus are those of its site at its address
pub record IsPrepared (hall : Inside) : Type 0 where
  pub limits : IsHall (place_in hall)
  pub texts : KeepsTexts hall.site.now.files hall.texts
  pub menus : KeepsMenus (place_in hall) hall.menus
