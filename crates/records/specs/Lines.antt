-- For the code only: the lines that are read of a sheet, one after the other.
use Rattle.std.specs.Prelude.{◌≡◌, Option, None, Some, ◌+◌, ◌≤◌, ◌<◌, length}
use Rattle.lines.specs.Words.{ReadAt}
use Rattle.lines.specs.declared.LineRead.{LineRead}
use Rattle.records.specs.declared.Lines.{Lines}

-- the line that starts at the place is given, and the next place is the one behind its end (`l.end + 1`): behind its LF, and one past the sheet's end
-- where the line lacks its LF; or none starts there, and nothing changes
abbrev pub GivesLine : Lines → Option LineRead → Lines → Type 0
GivesLine old None new = (length old.sheet.now ≤ old.at) × (new.sheet.now ≡ old.sheet.now) × (new.at ≡ old.at)
GivesLine old (Some l) new =
    (old.at < length old.sheet.now) × ReadAt old.sheet.now old.at l × (new.sheet.now ≡ old.sheet.now) × (new.at ≡ l.end + 1)
