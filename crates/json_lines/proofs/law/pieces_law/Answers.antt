use Rattle.json_lines.proofs.Laws.{text_pieces, begun_pieces}
use Rattle.json_lines.proofs.law.pieces_law.Goals as goal

pub returns-clause-text : goal.returns-clause-text
returns-clause-text c = text_pieces

pub returns-clause-begun : goal.returns-clause-begun
returns-clause-begun c = begun_pieces
