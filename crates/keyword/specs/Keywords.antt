-- SQLite's keywords: document 02, slip 1. They are the 147 words of SQLite's published list, release 3.40.0, in the order of the alphabet.
use Rattle.std.specs.Prelude.{ℕ, List, [], ◌∷◌, map}
use Prim.Native.String.{String}
use Rattle.prelude.specs.Bytes.{bytes}

unfoldable pub keyword_texts : List String
keyword_texts =
    "ABORT" ∷ "ACTION" ∷ "ADD" ∷ "AFTER" ∷ "ALL" ∷ "ALTER" ∷ "ALWAYS" ∷ "ANALYZE" ∷ "AND" ∷ "AS" ∷ "ASC" ∷ "ATTACH" ∷ "AUTOINCREMENT" ∷
    "BEFORE" ∷ "BEGIN" ∷ "BETWEEN" ∷ "BY" ∷
    "CASCADE" ∷ "CASE" ∷ "CAST" ∷ "CHECK" ∷ "COLLATE" ∷ "COLUMN" ∷ "COMMIT" ∷ "CONFLICT" ∷ "CONSTRAINT" ∷ "CREATE" ∷ "CROSS" ∷ "CURRENT" ∷
    "CURRENT_DATE" ∷ "CURRENT_TIME" ∷ "CURRENT_TIMESTAMP" ∷
    "DATABASE" ∷ "DEFAULT" ∷ "DEFERRABLE" ∷ "DEFERRED" ∷ "DELETE" ∷ "DESC" ∷ "DETACH" ∷ "DISTINCT" ∷ "DO" ∷ "DROP" ∷
    "EACH" ∷ "ELSE" ∷ "END" ∷ "ESCAPE" ∷ "EXCEPT" ∷ "EXCLUDE" ∷ "EXCLUSIVE" ∷ "EXISTS" ∷ "EXPLAIN" ∷
    "FAIL" ∷ "FILTER" ∷ "FIRST" ∷ "FOLLOWING" ∷ "FOR" ∷ "FOREIGN" ∷ "FROM" ∷ "FULL" ∷
    "GENERATED" ∷ "GLOB" ∷ "GROUP" ∷ "GROUPS" ∷
    "HAVING" ∷
    "IF" ∷ "IGNORE" ∷ "IMMEDIATE" ∷ "IN" ∷ "INDEX" ∷ "INDEXED" ∷ "INITIALLY" ∷ "INNER" ∷ "INSERT" ∷ "INSTEAD" ∷ "INTERSECT" ∷ "INTO" ∷
    "IS" ∷ "ISNULL" ∷
    "JOIN" ∷
    "KEY" ∷
    "LAST" ∷ "LEFT" ∷ "LIKE" ∷ "LIMIT" ∷
    "MATCH" ∷ "MATERIALIZED" ∷
    "NATURAL" ∷ "NO" ∷ "NOT" ∷ "NOTHING" ∷ "NOTNULL" ∷ "NULL" ∷ "NULLS" ∷
    "OF" ∷ "OFFSET" ∷ "ON" ∷ "OR" ∷ "ORDER" ∷ "OTHERS" ∷ "OUTER" ∷ "OVER" ∷
    "PARTITION" ∷ "PLAN" ∷ "PRAGMA" ∷ "PRECEDING" ∷ "PRIMARY" ∷
    "QUERY" ∷
    "RAISE" ∷ "RANGE" ∷ "RECURSIVE" ∷ "REFERENCES" ∷ "REGEXP" ∷ "REINDEX" ∷ "RELEASE" ∷ "RENAME" ∷ "REPLACE" ∷ "RESTRICT" ∷ "RETURNING" ∷
    "RIGHT" ∷ "ROLLBACK" ∷ "ROW" ∷ "ROWS" ∷
    "SAVEPOINT" ∷ "SELECT" ∷ "SET" ∷
    "TABLE" ∷ "TEMP" ∷ "TEMPORARY" ∷ "THEN" ∷ "TIES" ∷ "TO" ∷ "TRANSACTION" ∷ "TRIGGER" ∷
    "UNBOUNDED" ∷ "UNION" ∷ "UNIQUE" ∷ "UPDATE" ∷ "USING" ∷
    "VACUUM" ∷ "VALUES" ∷ "VIEW" ∷ "VIRTUAL" ∷
    "WHEN" ∷ "WHERE" ∷ "WINDOW" ∷ "WITH" ∷ "WITHOUT" ∷ []

unfoldable pub keywords : List (List ℕ)
keywords = map bytes keyword_texts
