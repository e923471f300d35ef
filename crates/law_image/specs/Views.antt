-- An image as what queries read.
use Rattle.history.specs.Views.{View}
use Rattle.law_image.specs.Values.{Value}
use Rattle.law_image.specs.Reading.{Reading}
use Rattle.law_image.specs.Log.{last_time, floor_of}
use Rattle.law_image.specs.Facts.{heap_versions, archived_versions}
use Rattle.law_image.specs.StandsFor.{archived_upto, reclaimed_upto}

-- what queries of the store that opens it read
abbrev pub view_of : Reading → View Value
view_of reading =
    record {
      newest = last_time reading.log;
      floors = floor_of reading.log;
      archived = archived_upto reading;
      reclaimed = reclaimed_upto reading;
      heap = heap_versions reading;
      archive = archived_versions reading;
    }
