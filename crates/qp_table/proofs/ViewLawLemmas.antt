-- The laws of what is seen of a lane.
use Rattle.qp_table.specs.ViewLaws.{FoundWordsAreAhead, GlancesAreSeen, GlancesFollow, SeenWordsRise, SideWordsRise, RecordsGain, GivesGain, LooksShow, MeetsSeeBoth, OwnCountsAreTold}
use Rattle.qp_table.proofs.Facts.{found-ahead}
use Rattle.qp_table.proofs.Gaining.{glance-saw, saw-then, saw-rises, side-rises, gains, gains-two, looks}
use Rattle.qp_table.proofs.Meeting.{meets}
use Rattle.qp_table.proofs.Own.{own-is}

pub found_words_are_ahead : FoundWordsAreAhead
found_words_are_ahead sys words views holds id v at w h = found-ahead sys words views holds id v at w h

pub glances_are_seen : GlancesAreSeen
glances_are_seen sys w v u x fits here seen ahead = glance-saw sys w v u x fits here seen ahead

pub glances_follow : GlancesFollow
glances_follow sys w v u z x y a b = saw-then sys w v u z x y a b

pub seen_words_rise : SeenWordsRise
seen_words_rise sys side w v u x saw = saw-rises sys side w v u x saw

pub side_words_rise : SideWordsRise
side_words_rise sys v w k old new off is le same = side-rises sys v w k old new off is le same

pub records_gain : RecordsGain
records_gain at side told spare more v u w k t r touches keeps = gains at side told spare more v u w k t r touches keeps

pub gives_gain : GivesGain
gives_gain at told spare more v z u w b k j t r q touches keeps = gains-two at told spare more v z u w b k j t r q touches keeps

pub looks_show : LooksShow
looks_show at side told spare v u w k x r says keeps = looks at side told spare v u w k x r says keeps

pub meets_see_both : MeetsSeeBoth
meets_see_both at other told theirs spare more v u was same all first = meets at other told theirs spare more v u was same all first

pub own_counts_are_told : OwnCountsAreTold
own_counts_are_told a l m event recs numbers v beside one same told serves = own-is a l m event recs numbers v beside one same told serves
