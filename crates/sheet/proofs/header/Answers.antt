use Rattle.sheet.proofs.Sheets.{header_written}
use Rattle.sheet.proofs.header.Goals as goal

pub returns : goal.returns
returns c = header_written _ _ _ _ _ _ c.requires.2 c.requires.3 c.to_le_bytes.ensures c.to_le_bytes-2.ensures
